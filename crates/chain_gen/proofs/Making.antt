-- Making a chain block by block.
use Rattle.std.proofs.Common.{◌≡◌, ◌<◌, ◌+◌, ◌-◌, ℕ, zero, suc, List, [], ◌∷◌, ◌++◌, refl, sym, ap, subst, ◌∙◌, arith, append-nil}
use Rattle.std.specs.Prelude.{Option, Some, None, Result, Ok, Err, fold, IsErr, is_err, ⊤, true, false}
use Rattle.std.proofs.lemmas.List.Concat.{flat_map-append, flat_map-cons}
use Rattle.base_types.specs.declared.hash.Hash32.{Hash32}
use Rattle.block_codec.specs.declared.block.Block.{Block}
use Rattle.block_codec.specs.Text.{hash_of_header}
use Rattle.io_traits.specs.Causes.{HasCause}
use Rattle.io_traits.specs.Host.{Held, Grows, Spoils, Writes, ChangesOnly}
use Rattle.io_traits.specs.HostRuns.{IsMade}
use Rattle.io_traits.proofs.HostRuns.{IsMade-changes, IsMade-spoiled, made_grows}
use Rattle.io_traits.specs.Told.{OnTold}
use Rattle.io_traits.proofs.Told.{OnTold-weaker, OnTold-then}
use Rattle.block_codec.specs.Genesis.{genesis_hash}
use Rattle.chain_model.specs.Generated.{chain, block_at, and_next, and_block, tip_of, frame_text, file_text}
use Rattle.chain_model.specs.Generated.{blocks_of}
use Rattle.chain_gen.specs.declared.fault.GenFault.{GenFault}
use Rattle.chain_gen.specs.declared.fault.GenFault.TheVariants.{NoMemory, HostFailed, NoNonce}
use Rattle.chain_gen.specs.Blocks.{IsBlock}
use Rattle.chain_gen.specs.Made.{IsTip, Leaves}

-- so many blocks were made, this is the hash of the last, and the created file has their frames
pub record Making (a b : Option Held) (number count : ℕ) (tip : Hash32) : Type 0 where
  pub blocks : List Block
  pub made : chain number count ≡ Ok blocks
  pub last : tip ≡ tip_of blocks
  pub file : (name : List ℕ) (first : Option Held) → OnTold first a (IsMade name []) → OnTold first b (IsMade name (file_text blocks))

chain-zero : (number : ℕ) → chain number 0 ≡ Ok []
unfolding chain
chain-zero number = refl

chain-suc : (number count : ℕ) → chain number (suc count) ≡ and_next number (suc count) (chain number count)
unfolding chain
chain-suc number count = refl

pub Making-none : (a : Option Held) (number : ℕ) (tip : Hash32) → tip ≡ genesis_hash → Making a a number 0 tip
Making-none a number tip is = record { blocks = []; made = chain-zero number; last = is; file = λ name first made. made }

-- one block more, or none
next_block : (number count : ℕ) (blocks : List Block) (next : Option Block) → chain number count ≡ Ok blocks → block_at number (tip_of blocks) (count + 1) ≡ next → chain number (count + 1) ≡ and_block blocks next
next_block number count blocks next made is =
    let one : count + 1 ≡ suc count = omega arith in
    ap (chain number) one
    ∙ chain-suc number count
    ∙ ap (and_next number (suc count)) made
    ∙ ap (λ (at : ℕ). and_block blocks (block_at number (tip_of blocks) at)) (sym one)
    ∙ ap (and_block blocks) is

tip_of-push : (tip : Hash32) (blocks : List Block) (block : Block) → fold (λ (_ : Hash32) (b : Block). hash_of_header b.header) tip (blocks ++ block ∷ []) ≡ hash_of_header block.header
tip_of-push tip [] block = refl
tip_of-push tip (b ∷ blocks) block = tip_of-push (hash_of_header b.header) blocks block

file_text-push : (blocks : List Block) (block : Block) → file_text (blocks ++ block ∷ []) ≡ file_text blocks ++ frame_text block
file_text-push blocks block =
    flat_map-append frame_text blocks (block ∷ [])
    ∙ ap (λ (bytes : List ℕ). file_text blocks ++ bytes) (flat_map-cons frame_text block [] ∙ append-nil (frame_text block))

-- its frame was written
pub Making-next : (a b c : Option Held) (number count : ℕ) (tip hash : Hash32) (block : Block) (frame : List ℕ) → Making a b number count tip → block_at number tip (count + 1) ≡ Some block → hash ≡ hash_of_header block.header → frame ≡ frame_text block → OnTold b c (λ t u. Grows t.created frame t u)
    → Making a c number (count + 1) hash
Making-next a b c number count tip hash block frame making is hashed framed grows =
    let blocks = making.blocks in
    let found : block_at number (tip_of blocks) (count + 1) ≡ Some block = ap (λ (t : Hash32). block_at number t (count + 1)) (sym making.last) ∙ is in
    let text : file_text blocks ++ frame ≡ file_text (blocks ++ block ∷ []) = ap (λ (bytes : List ℕ). file_text blocks ++ bytes) framed ∙ sym (file_text-push blocks block) in
    record {
      blocks = blocks ++ block ∷ [];
      made = next_block number count blocks (Some block) making.made found;
      last = hashed ∙ sym (tip_of-push genesis_hash blocks block);
      file = λ name first begun. subst (λ (bytes : List ℕ). OnTold first c (IsMade name bytes)) text (made_grows name (file_text blocks) frame first b c (making.file name first begun) grows);
    }

-- where a block has no nonce, no longer chain has others
ended : (number count more : ℕ) (blocks : List Block) → chain number count ≡ Err blocks → chain number (more + count) ≡ Err blocks
ended number count zero blocks is = let same : 0 + count ≡ count = omega arith in ap (chain number) same ∙ is
ended number count (suc more) blocks is =
    let next : suc more + count ≡ suc (more + count) = omega arith in
    ap (chain number) next ∙ chain-suc number (more + count) ∙ ap (and_next number (suc (more + count))) (ended number count more blocks is)

pub no_block : (a b : Option Held) (number count all : ℕ) (tip : Hash32) (making : Making a b number count tip) → count < all → block_at number tip (count + 1) ≡ None → chain number all ≡ Err making.blocks
no_block a b number count all tip making below none =
    let rest : (all - (count + 1)) + (count + 1) ≡ all = omega arith in
    let found : block_at number (tip_of making.blocks) (count + 1) ≡ None = ap (λ (t : Hash32). block_at number t (count + 1)) (sym making.last) ∙ none in
    ap (chain number) (sym rest) ∙ ended number (count + 1) (all - (count + 1)) making.blocks (next_block number count making.blocks None making.made found)

-- the work was cut off
pub cut_off : (a b : Option Held) (number count : ℕ) (tip : Hash32) (name : List ℕ) (first : Option Held) → Making a b number count tip → OnTold first a (IsMade name []) → OnTold first b (λ s t. ChangesOnly name s t × (t.created ≡ Some name))
cut_off a b number count tip name first making begun =
    OnTold-weaker (IsMade name (file_text making.blocks)) (λ s t. ChangesOnly name s t × (t.created ≡ Some name)) first b
    (λ s t is. (IsMade-changes name (file_text making.blocks) s t is, ap (λ (h : Held). h.created) is))
    (making.file name first begun)

-- or a write failed
pub cut_off_by : (a b c : Option Held) (number count : ℕ) (tip : Hash32) (name : List ℕ) (first : Option Held) → Making a b number count tip → OnTold first a (IsMade name []) → OnTold b c (λ t u. Spoils t.created t u × (u.created ≡ t.created)) → OnTold first c (λ s t. ChangesOnly name s t × (t.created ≡ Some name))
cut_off_by a b c number count tip name first making begun =
    OnTold-then (IsMade name (file_text making.blocks)) (λ t u. Spoils t.created t u × (u.created ≡ t.created)) (λ s t. ChangesOnly name s t × (t.created ≡ Some name)) first b c
    (λ s t u is failed. (IsMade-spoiled name (file_text making.blocks) s t u is failed.0, failed.1 ∙ ap (λ (h : Held). h.created) is))
    (making.file name first begun)

-- a block could not be made
pub failed_tip : (a b : Option Held) (number count all : ℕ) (tip : Hash32) (fault : GenFault) → Making a b number count tip → count < all → IsBlock (Err fault) (block_at number tip (count + 1)) → IsTip (Err fault) (chain number all)
failed_tip a b number count all tip NoMemory making below is = tt
failed_tip a b number count all tip HostFailed making below is = absurd is
failed_tip a b number count all tip NoNonce making below is = subst (λ (made : Result (List Block) (List Block)). IsErr made) (sym (no_block a b number count all tip making below is)) refl

pub failed_file : (a b : Option Held) (number count all : ℕ) (tip : Hash32) (fault : GenFault) → Making a b number count tip → count < all → IsBlock (Err fault) (block_at number tip (count + 1))
    → (name : List ℕ) (first : Option Held) → OnTold first a (IsMade name []) → OnTold first b (Leaves (Err fault) name (file_text (blocks_of (chain number all))))
failed_file a b number count all tip NoMemory making below is name first begun = cut_off a b number count tip name first making begun
failed_file a b number count all tip HostFailed making below is name first begun = absurd is
failed_file a b number count all tip NoNonce making below is name first begun =
    subst (λ (made : Result (List Block) (List Block)). OnTold first b (IsMade name (file_text (blocks_of made)))) (sym (no_block a b number count all tip making below is)) (making.file name first begun)

-- ---- a call of the host that is asked only whether it failed

pub write_done : {E : Type 0} (b c : Option Held) (result : Result ⊤ E) (bytes : List ℕ) → is_err result ≡ false → OnTold b c (Writes bytes result) → OnTold b c (λ t u. Grows t.created bytes t u)
write_done b c (Ok _) bytes fine told = told
write_done b c (Err e) bytes fine told = cc

pub write_failed : {E : Type 0} (b c : Option Held) (result : Result ⊤ E) (bytes : List ℕ) → is_err result ≡ true → OnTold b c (Writes bytes result) → OnTold b c (λ t u. Spoils t.created t u × (u.created ≡ t.created))
write_failed b c (Ok _) bytes fails told = cc
write_failed b c (Err e) bytes fails told = told

-- a call of the host that didn't fail leaves its count of faults
pub write_kept : {T E : Type 0} (before now : ℕ) (result : Result T E) → is_err result ≡ false → HasCause before now result → now ≡ before
write_kept before now (Ok _) fine cause = cause.kept
write_kept before now (Err e) fine cause = cc
