-- Steps of the machine from genesis alone.
use Rattle.std.proofs.Common.{◌≡◌, inl, inr, ℕ, ◌-◌, Bool, cond, List, [], ◌∷◌, length, Option, Some, None, Ok, Err, refl, sym, ap, subst, ◌∙◌, arith}
use Rattle.std.specs.Prelude.{codes, ◌≢◌, ◌<◌, unwrap_or}
use Rattle.std.specs.FinMap.{get, insert, remove, empty, get-empty, get-remove, len-empty, nat_cmp-IsAntisymmetric, slice_cmp-IsAntisymmetric}
use Rattle.std.specs.Ordering.{nat_cmp}
use Rattle.std.specs.Cmp.Lexicographic.{slice_cmp, nat_list_cmp_total}
use Rattle.base_types.proofs.KeyOrders.{hash_ties, tied_not}
use Rattle.std.specs.FinMap as finite
use Rattle.base_types.specs.Coins.{Coins}
use Rattle.base_types.specs.Keys.{outpoint_cmp}
use Rattle.base_types.specs.declared.coin.Coin.{Coin}
use Rattle.base_types.specs.declared.flushes.Chain.TheVariants.{Full}
use Rattle.base_types.specs.declared.flushes.Why.{Why}
use Rattle.base_types.specs.declared.flushes.Why.TheVariants.{Command, End}
use Rattle.base_types.specs.declared.hash.Hash32.{Hash32}
use Rattle.base_types.specs.declared.hash.OutPoint.{OutPoint}
use Rattle.base_types.specs.declared.program.Rules.{Rules}
use Rattle.block_codec.specs.Frames.{frames, frames_after}
use Rattle.block_codec.specs.Text.{hash_of_header}
use Rattle.block_codec.specs.declared.block.Block.{Block}
use Rattle.io_traits.specs.Host.{Files}
use Rattle.chain_model.specs.Apply.{replayed}
use Rattle.chain_model.specs.Choice.{coins_at}
use Rattle.chain_model.specs.Folding.{nothing_folded, fold_of}
use Rattle.chain_model.specs.Generated.{chain as generated_chain, file_text}
use Rattle.block_codec.specs.Genesis.{genesis_hash}
use Rattle.chain_model.specs.Tree.{first_headers, chain, chain_within, height}
use Rattle.command_text.specs.Lines.{line_of, pieces_between}
use Rattle.command_text.specs.declared.line.Line.TheVariants as line
use Rattle.command_text.specs.declared.line.LineRefused.TheVariants.{UnknownCommand, BadName}
use Rattle.command_text.specs.declared.reply.Reply.TheVariants as says
use Rattle.command_text.specs.declared.reply.Role.TheVariants as role
use Rattle.store_state.specs.State.{blocks_in}
use Rattle.chain_model.proofs.Hashes.{same_self}
use Rattle.chain_model.proofs.SmallTrees.{at_genesis}
use Rattle.chain_model.proofs.Trees.{one_member}
use Rattle.machine.specs.State.{Setting, Flush, still, begins, choice_of}
use Rattle.machine.specs.SmallStates.{genesis_store, genesis_standing, genesis_state, at_start, genesis_flushed, asked_at_genesis}
use Rattle.machine.specs.Steps.{Now, Step, WithBytes, answered, faulted, longest_file, folded_reply, coin_reply, OrFault, UnlessTooLong, Folds, IsFoldReply, TakesHeaders, Imports, Generation, Generates, at_end}

-- ---- genesis alone

pub begins_at_genesis : (given : Rules) → begins (genesis_store given) ≡ genesis_state given
unfolding blocks_in
begins_at_genesis given = refl

chain_of_genesis : chain first_headers genesis_hash ≡ genesis_hash ∷ []
chain_of_genesis = ap (λ (n : ℕ). chain_within n first_headers genesis_hash) one_member ∙ at_genesis 0 first_headers

pub genesis_height : height first_headers genesis_hash ≡ 0
genesis_height = ap (λ (l : List Hash32). length l - 1) chain_of_genesis

no_coins : (given : Rules) → coins_at (choice_of (genesis_state given) genesis_standing) genesis_hash ≡ Some empty
unfolding replayed
no_coins given = rw (chain_of_genesis, same_self genesis_hash) refl

-- ---- lines without a file

-- a line without bytes does nothing
pub empty_line : (setting : Setting) (now : Now) → Step setting now (line_of []) (answered now [])
empty_line setting now = refl

-- a line that is no command is refused, and one with a name that is none
pub unknown_line : (setting : Setting) (now : Now) → Step setting now (line_of (codes "reflush")) (answered now (says.Refused UnknownCommand ∷ []))
unfolding pieces_between
unknown_line setting now = refl

pub bad_name : (setting : Setting) (now : Now) → Step setting now (line_of (codes "import ")) (answered now (says.Refused BadName ∷ []))
unfolding pieces_between
bad_name setting now = refl

flush_is : (why : Why) (given : Rules) (files : Files) (n : ℕ) → n ≡ 0
    → genesis_flushed why given files ≡ record { now = at_start given files; replies = says.Flushed Full n genesis_hash ∷ []; events = Flush Full genesis_hash why [] ∷ []; reads = 0; faults = 0 }
flush_is why given files n e = ap (λ (at : ℕ). record (genesis_flushed why given files) { replies = says.Flushed Full at genesis_hash ∷ [] }) (sym e)

pub flush_line : (setting : Setting) (given : Rules) (files : Files) → Step setting (at_start given files) (line_of (codes "flush")) (genesis_flushed Command given files)
unfolding pieces_between
flush_line setting given files = flush_is Command given files (height first_headers genesis_hash) genesis_height

-- the end of the input flushes too
pub end_of_input : (given : Rules) (files : Files) → at_end (at_start given files) ≡ genesis_flushed End given files
end_of_input given files = sym (flush_is End given files (height first_headers genesis_hash) genesis_height)

-- one header, at height 0
pub info_line : (setting : Setting) (given : Rules) (files : Files)
    → Step setting (at_start given files) (line_of (codes "info")) (answered (at_start given files) (says.Info None 1 0 role.Full genesis_hash ∷ []))
unfolding pieces_between
info_line setting given files =
    ap (λ (n : ℕ). answered (at_start given files) (says.Info None n 0 role.Full genesis_hash ∷ [])) (sym one_member)
    ∙ ap (λ (n : ℕ). answered (at_start given files) (says.Info None (finite.len first_headers) n role.Full genesis_hash ∷ [])) (sym genesis_height)

pub gettxout_line : (setting : Setting) (given : Rules) (files : Files) (key : OutPoint) → Step setting (at_start given files) (Ok (line.GetTxOut key)) (asked_at_genesis given files key)
gettxout_line setting given files key =
    ap (λ (o : Option Coin). record (asked_at_genesis given files key) { replies = coin_reply (genesis_state given) o ∷ [] })
    (sym (ap (λ (o : Option Coins). get (unwrap_or o empty) key) (no_coins given) ∙ get-empty outpoint_cmp key))

-- ---- lines that read a file

-- a file that the host doesn't hold
pub missing_file : (setting : Setting) (now : Now) (name : List ℕ) → get now.files name ≡ None → Step setting now (Ok (line.Import name None)) (answered now (says.HostFault ∷ []))
missing_file setting now name none =
    subst (λ (o : Option (List ℕ)). WithBytes o now (λ bytes. OrFault now (UnlessTooLong now (Imports setting now None) bytes)) (answered now (says.HostFault ∷ []))) (sym none) refl

-- a file that is longer than any that is read
pub long_file : (setting : Setting) (now : Now) (name bytes : List ℕ) → get now.files name ≡ Some bytes → longest_file < length bytes
    → Step setting now (Ok (line.Headers name None)) (answered now (says.FileTooLong ∷ []))
long_file setting now name bytes held long =
    subst (λ (o : Option (List ℕ)). WithBytes o now (λ bytes. OrFault now (UnlessTooLong now (TakesHeaders setting now None) bytes)) (answered now (says.FileTooLong ∷ []))) (sym held) (inl (inr (long, refl)))

-- the fold of an empty file ends at genesis
no_frames : frames [] None ≡ []
unfolding frames_after
no_frames = refl

folds_nothing : (given : Rules) → folded_reply (nothing_folded given) ≡ says.Folded 0 0 genesis_hash 0
folds_nothing given =
    ap (λ (n : ℕ). says.Folded 0 n genesis_hash (finite.len (nothing_folded given).coins)) genesis_height
    ∙ ap (λ (n : ℕ). says.Folded 0 0 genesis_hash n) (len-empty outpoint_cmp Coin)

pub fold_line : (setting : Setting) (now : Now) (name : List ℕ) → get now.files name ≡ Some [] → Step setting now (Ok (line.Fold name)) (answered now (says.Folded 0 0 genesis_hash 0 ∷ []))
fold_line setting now name held =
    let did = answered now (says.Folded 0 0 genesis_hash 0 ∷ []) in
    let is : IsFoldReply 0 (fold_of setting.limit setting.given []) (says.Folded 0 0 genesis_hash 0) = inl (sym (folds_nothing setting.given), omega arith) in
    let folds : Folds setting now [] did =
    inl (says.Folded 0 0 genesis_hash 0, subst (λ (blocks : List Block). IsFoldReply 0 (fold_of setting.limit setting.given blocks) (says.Folded 0 0 genesis_hash 0)) (sym no_frames) is, refl) in
    subst (λ (o : Option (List ℕ)). WithBytes o now (Folds setting now) did) (sym held) folds

-- ---- lines that write a file

-- a chain of one block, and the file that has it
pub generate_line : (setting : Setting) (now : Now) (number : ℕ) (name : List ℕ) (block : Block) → generated_chain number 1 ≡ Ok (block ∷ [])
    → Step setting now (Ok (line.Generate number 1 name)) (record (answered now (says.Generated 1 (hash_of_header block.header) ∷ [])) { now = record now { files = insert now.files name (file_text (block ∷ [])) } })
generate_line setting now number name block made =
    subst (λ (g : Generation). Generates now name 1 g (record (answered now (says.Generated 1 (hash_of_header block.header) ∷ [])) { now = record now { files = insert now.files name (file_text (block ∷ [])) } }))
    (sym made) (inl refl)

-- where the second block has no nonce, the file has the first
pub no_nonce_line : (setting : Setting) (now : Now) (number : ℕ) (name : List ℕ) (block : Block) → generated_chain number 2 ≡ Err (block ∷ [])
    → Step setting now (Ok (line.Generate number 2 name)) (record (answered now (says.NoNonce ∷ [])) { now = record now { files = insert now.files name (file_text (block ∷ [])) } })
no_nonce_line setting now number name block made =
    subst (λ (g : Generation). Generates now name 2 g (record (answered now (says.NoNonce ∷ [])) { now = record now { files = insert now.files name (file_text (block ∷ [])) } })) (sym made) (inl refl)

others_stay : (files : Files) (name other : List ℕ) → other ≢ name → get (remove files name) other ≡ get files other
others_stay files name other apart =
    get-remove nat_list_cmp_total files name other
    ∙ ap (λ (b : Bool). cond b None (get files other)) (tied_not (slice_cmp nat_cmp) (λ xs. hash_ties (record { bytes = xs })) (slice_cmp-IsAntisymmetric nat_cmp-IsAntisymmetric) other name apart)

-- a fault of the host, which left no file
pub generate_fault : (setting : Setting) (now : Now) (number count : ℕ) (name : List ℕ)
    → Step setting now (Ok (line.Generate number count name)) (faulted (record now { files = remove now.files name }) (still now.state))
generate_fault setting now number count name = inr (remove now.files name, λ other apart. others_stay now.files name other apart, refl)
