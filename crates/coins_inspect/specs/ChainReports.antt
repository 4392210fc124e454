-- What is printed of headers that stand one after another: each is judged by the rules of headers, in the tree of those before
-- it that broke none, from genesis on.
use Rattle.std.specs.Prelude.{ℕ, zero, suc, ◌==◌, List, [], ◌∷◌, ◌++◌, length, codes, decimal, Option, Some, None, Result, Ok, Err, if◌then◌else◌}
use Rattle.base_types.specs.Printed.{printed}
use Rattle.base_types.specs.Reading.{Input}
use Rattle.base_types.specs.declared.hash.Hash32.{Hash32}
use Rattle.base_types.specs.declared.program.Rules.{Rules}
use Rattle.base_types.specs.declared.refused.HeaderRefused.{HeaderRefused}
use Rattle.block_codec.specs.Reading.{header_at, Wrong}
use Rattle.block_codec.specs.Text.{hash_of_header}
use Rattle.block_codec.specs.declared.block.Header.{Header}
use Rattle.chain_model.specs.HeaderRules.{header_broken}
use Rattle.chain_model.specs.Tree.{height}
use Rattle.header_tree.specs.State.{State, first_state, after_header}
use Rattle.header_tree.specs.declared.fault.AcceptFault.{AcceptFault}
use Rattle.header_tree.specs.declared.fault.AcceptFault.TheVariants.{NoMemory, Refused}
use Rattle.coins_inspect.specs.Lines.{line}
use Rattle.coins_inspect.specs.Names.{block_error, header_refused}
use Rattle.coins_inspect.specs.Reports.{all_of, fault_line}

-- genesis alone, with room for so many headers, and each rule from height 1 on
abbrev pub genesis_alone : State
genesis_alone = first_state 4194304 (record { version4 = 1; bip34 = 1; csv = 1; segwit = 1 })

unfoldable pub accepted_line : ℕ → Hash32 → List ℕ
accepted_line height hash = line (codes "ok") (decimal height ∷ printed hash ∷ [])

unfoldable pub broken_line : HeaderRefused → Hash32 → List ℕ
broken_line rule hash = line (codes "refused") (header_refused rule ∷ printed hash ∷ [])

-- a fact of the rule that is broken, where no memory was wanted
abbrev pub IsRefusal : AcceptFault → (HeaderRefused → Type 0) → Type 0
IsRefusal (Refused rule) P = P rule
IsRefusal NoMemory P = ⊥

-- the line of a header, by the rule that it breaks, and what follows in the tree behind it
abbrev pub judged : Option HeaderRefused → State → Header → (State → List ℕ) → List ℕ
judged None state header others =
    accepted_line (height (after_header state header).tree.headers (hash_of_header header)) (hash_of_header header) ++ others (after_header state header)
judged (Some rule) state header others = broken_line rule (hash_of_header header) ++ others state

abbrev pub judged_there : State → (State → Input → List ℕ) → Result (Header × Input) Wrong → List ℕ
judged_there state others (Ok found) = judged (header_broken state.limit state.tree found.0) state found.0 (λ next. others next found.1)
judged_there state others (Err wrong) = fault_line (block_error wrong.0) wrong.1

-- the headers to the end, of which there are at most so many
unfoldable pub chain_lines : ℕ → State → Input → List ℕ
chain_lines zero state i = []
chain_lines (suc most) state i = if length i.rest == 0 then [] else judged_there state (chain_lines most) (header_at i)

unfoldable pub headers_report : List ℕ → List ℕ
headers_report bytes = chain_lines (length bytes) genesis_alone (all_of bytes)
