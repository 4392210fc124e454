-- Headers, one after another.
use Rattle.std.proofs.Common.{◌≡◌, ◌≤◌, ◌<◌, ◌+◌, ◌-◌, ℕ, zero, suc, Bool, true, false, cond, List, [], ◌++◌, length, Option, Some, None, Result, Ok, Err, refl, sym, ap, subst, ◌∙◌, arith, append_assoc}
use Rattle.std.specs.Prelude.{◌==◌, is_some}
use lib.Pointwise.{bytes_decides}
use Rattle.std.specs.Ordering.{is_eq}
use Rattle.std.specs.Cmp.{tied_itself}
use Rattle.std.specs.FinMap.{get, insert, contains_key, get-insert}
use Rattle.std.proofs.lemmas.List.{append-nil}
use Rattle.base_types.proofs.KeyOrders.{hash_cmp_total}
use Rattle.base_types.specs.Reading.{Input}
use Rattle.base_types.specs.declared.hash.Hash32.{Hash32}
use Rattle.base_types.specs.declared.refused.HeaderRefused.{HeaderRefused}
use Rattle.block_codec.specs.Reading.{header_at, Wrong, Fails}
use Rattle.block_codec.specs.declared.fault.BlockFault.{BlockFault}
use Rattle.block_codec.specs.declared.fault.BlockFault.TheVariants.{NoMemory, Bad}
use Rattle.block_codec.specs.Text.{hash_of_header}
use Rattle.block_codec.specs.declared.block.Header.{Header}
use Rattle.chain_model.specs.HeaderRules.{header_broken}
use Rattle.chain_model.specs.Tree.{Headers, height, of_member}
use Rattle.header_tree.specs.Answers.{Answers}
use Rattle.header_tree.specs.State.{State, after_header}
use Rattle.header_tree.specs.declared.fault.AcceptFault.{AcceptFault}
use Rattle.header_tree.specs.declared.fault.AcceptFault.TheVariants as accept
use Rattle.coins_inspect.specs.ChainReports.{accepted_line, broken_line, judged, chain_lines, IsRefusal}
use Rattle.coins_inspect.specs.Names.{block_error}
use Rattle.coins_inspect.specs.Reports.{fault_line, IsFault}

-- ---- one header

known_there : (headers : Headers) (hash : Hash32) (header : Header) → get (insert headers hash header) hash ≡ Some header
known_there headers hash header = get-insert hash_cmp_total headers hash header hash ∙ ap (λ (b : Bool). cond b (Some header) (get headers hash)) (ap is_eq (tied_itself hash_cmp_total hash))

-- what was accepted is in the tree
pub is_member : (state next : State) (header : Header) (hash : Hash32) → next ≡ after_header state header → hash ≡ hash_of_header header → contains_key next.tree.headers hash ≡ true
is_member state next header hash then named =
    ap (λ (s : State). contains_key s.tree.headers hash) then
    ∙ ap (λ (h : Hash32). contains_key (insert state.tree.headers (hash_of_header header) header) h) named
    ∙ ap is_some (known_there state.tree.headers (hash_of_header header) header)

pub member_height : (b : Bool) (at n : ℕ) → Some n ≡ cond b (Some at) None → n ≡ at
member_height true at n is = cc
member_height false at n is = absurd cc

pub not_lost : (b : Bool) (at : ℕ) → None ≡ cond b (Some at) None → b ≡ true → ⊥
not_lost true at is there = absurd cc
not_lost false at is there = absurd cc

pub judged_ok : (old new : List ℕ) (state next : State) (header : Header) (others : State → List ℕ) (hash : Hash32) (at : ℕ)
    → header_broken state.limit state.tree header ≡ None → hash ≡ hash_of_header header → next ≡ after_header state header
    → at ≡ height next.tree.headers hash → new ≡ old ++ accepted_line at hash
    → new ++ others next ≡ old ++ judged (header_broken state.limit state.tree header) state header others
judged_ok old new state next header others hash at fine named then high is =
    let after = after_header state header in
    let line : accepted_line at hash ≡ accepted_line (height after.tree.headers (hash_of_header header)) (hash_of_header header) =
    ap (λ (n : ℕ). accepted_line n hash) (high ∙ ap (λ (s : State). height s.tree.headers hash) then) ∙ ap (λ (h : Hash32). accepted_line (height after.tree.headers h) h) named in
    ap (λ (l : List ℕ). l ++ others next) is ∙ append_assoc old (accepted_line at hash) (others next)
    ∙ ap (λ (l : List ℕ). old ++ (l ++ others next)) line
    ∙ ap (λ (s : State). old ++ (accepted_line (height after.tree.headers (hash_of_header header)) (hash_of_header header) ++ others s)) then
    ∙ ap (λ (b : Option HeaderRefused). old ++ judged b state header others) (sym fine)

judged_broken : (old new : List ℕ) (state next : State) (header : Header) (others : State → List ℕ) (hash : Hash32) (rule : HeaderRefused)
    → header_broken state.limit state.tree header ≡ Some rule → hash ≡ hash_of_header header → next ≡ state
    → new ≡ old ++ broken_line rule hash
    → new ++ others next ≡ old ++ judged (header_broken state.limit state.tree header) state header others
judged_broken old new state next header others hash rule broken named then is =
    ap (λ (l : List ℕ). l ++ others next) is ∙ append_assoc old (broken_line rule hash) (others next)
    ∙ ap (λ (h : Hash32). old ++ (broken_line rule h ++ others next)) named
    ∙ ap (λ (s : State). old ++ (broken_line rule (hash_of_header header) ++ others s)) then
    ∙ ap (λ (b : Option HeaderRefused). old ++ judged b state header others) (sym broken)

pub judged_refused : (fault : AcceptFault) (old new : List ℕ) (state next : State) (header : Header) (others : State → List ℕ) (hash : Hash32)
    → Answers (header_broken state.limit state.tree header) (hash_of_header header) (Err fault) → hash ≡ hash_of_header header → next ≡ state
    → IsRefusal fault (λ rule. new ≡ old ++ broken_line rule hash)
    → new ++ others next ≡ old ++ judged (header_broken state.limit state.tree header) state header others
judged_refused accept.NoMemory old new state next header others hash broken named then is = absurd is
judged_refused (accept.Refused rule) old new state next header others hash broken named then is = judged_broken old new state next header others hash rule broken named then is

-- ---- the headers that are left

pub nothing_left : (most : ℕ) (state : State) (i : Input) → (length i.rest == 0) ≡ true → chain_lines most state i ≡ []
unfolding chain_lines
nothing_left zero state i none = refl
nothing_left (suc most) state i none = rw none refl

pub one_more : (most k : ℕ) (state : State) (i j : Input) (header : Header) → k < most → (length i.rest == 0) ≡ false → header_at i ≡ Ok (header, j)
    → chain_lines (most - k) state i ≡ judged (header_broken state.limit state.tree header) state header (λ next. chain_lines (most - (k + 1)) next j)
unfolding chain_lines
one_more most k state i j header lt some read =
    let step : most - k ≡ suc (most - (k + 1)) = omega arith in
    rw (step, some, read) refl

broken_off : (most k : ℕ) (state : State) (i : Input) (wrong : Wrong) → k < most → (length i.rest == 0) ≡ false → header_at i ≡ Err wrong
    → chain_lines (most - k) state i ≡ fault_line (block_error wrong.0) wrong.1
unfolding chain_lines
broken_off most k state i wrong lt some read =
    let step : most - k ≡ suc (most - (k + 1)) = omega arith in
    rw (step, some, read) refl

pub broken_there : (fault : BlockFault) (out new all : List ℕ) (most k : ℕ) (state : State) (i : Input) → k < most → (length i.rest == 0) ≡ false → Fails fault (header_at i)
    → out ++ chain_lines (most - k) state i ≡ all → IsFault fault (λ error at. new ≡ out ++ fault_line (block_error error) at) → new ≡ all
broken_there NoMemory out new all most k state i lt some fails before is = absurd is
broken_there (Bad error at) out new all most k state i lt some fails before is = is ∙ ap (λ (l : List ℕ). out ++ l) (sym (broken_off most k state i (error, at) lt some fails)) ∙ before

pub no_turn_left : (most k : ℕ) (state : State) (i : Input) → most ≤ k → chain_lines (most - k) state i ≡ []
unfolding chain_lines
no_turn_left most k state i le =
    let none : most - k ≡ 0 = omega arith in
    rw none refl

-- what was printed is all, where nothing is left
pub all_printed : (out rest all : List ℕ) → rest ≡ [] → out ++ rest ≡ all → out ≡ all
all_printed out rest all none is = sym (append-nil out) ∙ ap (λ (l : List ℕ). out ++ l) (sym none) ∙ is
