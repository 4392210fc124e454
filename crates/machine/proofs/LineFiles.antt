-- What a line leaves of the host's files: each one, but for that which it may begin.
use Rattle.std.proofs.Common.{◌≡◌, ℕ, List, inl, inr, ap, ◌∙◌}
use Rattle.std.specs.Prelude.{Bool, true, false, Option, Some, None, Result, Ok, Err}
use Rattle.std.specs.FinMap.{get}
use Rattle.io_traits.specs.Host.{Files}
use Rattle.io_traits.proofs.HostRuns.{get-insert_other}
use Rattle.block_codec.specs.declared.block.Block.{Block}
use Rattle.block_codec.specs.Frames.{frames}
use Rattle.chain_model.specs.Generated.{chain as generated_chain}
use Rattle.chain_model.specs.HeaderRules.{Closed}
use Rattle.command_text.specs.declared.line.Line.{Line}
use Rattle.command_text.specs.declared.line.Line.TheVariants as line
use Rattle.command_text.specs.declared.line.LineRefused.{LineRefused}
use Rattle.machine.specs.Answers.{SameBut, file_begun}
use Rattle.machine.specs.State.{Setting}
use Rattle.machine.specs.Steps.{Now, Did, Step, WithBytes, Folds, generated_bytes, HeadersDo, OffersUnless, ImportDoes, closure_of, UnlessTooLong, TakesHeaders, Imports, OrFault}

-- ---- equal files, and one change after another

pub same_but : (begun : Option (List ℕ)) (s t : Files) → t ≡ s → SameBut begun s t
same_but None s t same = same
same_but (Some name) s t same = λ other apart. ap (λ (files : Files). get files other) same

pub same_but_then : (begun : Option (List ℕ)) (s t u : Files) → SameBut begun s t → SameBut begun t u → SameBut begun s u
same_but_then None s t u first second = second ∙ first
same_but_then (Some name) s t u first second = λ other apart. second other apart ∙ first other apart

-- ---- lines

folds_keep : (setting : Setting) (now : Now) (found : Option (List ℕ)) (did : Did) → WithBytes found now (Folds setting now) did → did.now.files ≡ now.files
folds_keep setting now None did is = ap (λ (d : Did). d.now.files) is
folds_keep setting now (Some bytes) did (inl is) = ap (λ (d : Did). d.now.files) is.2
folds_keep setting now (Some bytes) did (inr is) = ap (λ (d : Did). d.now.files) is

file_keeps : (now : Now) (found : Option (List ℕ)) (Does : List ℕ → Did → Type 0) (did : Did) → ((bytes : List ℕ) → Does bytes did → did.now.files ≡ now.files)
    → WithBytes found now (λ bytes. OrFault now (UnlessTooLong now Does bytes)) did → did.now.files ≡ now.files
file_keeps now None Does did some is = ap (λ (d : Did). d.now.files) is
file_keeps now (Some bytes) Does did some (inl (inl is)) = some bytes is.1
file_keeps now (Some bytes) Does did some (inl (inr is)) = ap (λ (d : Did). d.now.files) is.1
file_keeps now (Some bytes) Does did some (inr is) = ap (λ (d : Did). d.now.files) is

headers_keep : (setting : Setting) (now : Now) (blocks : List Block) (closed : Closed) (did : Did) → HeadersDo setting now blocks closed did → did.now.files ≡ now.files
headers_keep setting now blocks closed did (inl is) = ap (λ (d : Did). d.now.files) is
headers_keep setting now blocks closed did (inr is) = ap (λ (d : Did). d.now.files) is.1

offers_keep : (full : Bool) (setting : Setting) (now : Now) (blocks : List Block) (closed : Closed) (did : Did) → OffersUnless full setting now blocks closed did → did.now.files ≡ now.files
offers_keep true setting now blocks closed did is = ap (λ (d : Did). d.now.files) is
offers_keep false setting now blocks closed did is = ap (λ (d : Did). d.now.files) is.2

imports_keep : (setting : Setting) (now : Now) (blocks : List Block) (closed : Closed) (did : Did) → ImportDoes setting now blocks closed did → did.now.files ≡ now.files
imports_keep setting now blocks closed did (inl is) = offers_keep closed.full setting now blocks closed did is
imports_keep setting now blocks closed did (inr (inl is)) = ap (λ (d : Did). d.now.files) is.1
imports_keep setting now blocks closed did (inr (inr is)) = ap (λ (d : Did). d.now.files) is.4

pub step_keeps : (setting : Setting) (now : Now) (parsed : Result Line LineRefused) (did : Did) → Step setting now parsed did → SameBut (file_begun parsed) now.files did.now.files
step_keeps setting now (Err why) did step = ap (λ (d : Did). d.now.files) step
step_keeps setting now (Ok line.Empty) did step = ap (λ (d : Did). d.now.files) step
step_keeps setting now (Ok (line.Fold file)) did step = folds_keep setting now (get now.files file) did step
step_keeps setting now (Ok (line.Headers file key)) did step =
    file_keeps now (get now.files file) (TakesHeaders setting now key) did (λ bytes is. headers_keep setting now (frames bytes key) (closure_of setting now.state (frames bytes key)) did is) step
step_keeps setting now (Ok (line.Import file key)) did step =
    file_keeps now (get now.files file) (Imports setting now key) did (λ bytes is. imports_keep setting now (frames bytes key) (closure_of setting now.state (frames bytes key)) did is) step
step_keeps setting now (Ok (line.Generate number count file)) did (inl is) = λ other apart.
    ap (λ (d : Did). get d.now.files other) is ∙ get-insert_other now.files file other (generated_bytes (generated_chain number count)) apart
step_keeps setting now (Ok (line.Generate number count file)) did (inr is) = λ other apart. ap (λ (d : Did). get d.now.files other) is.2 ∙ is.1 other apart
step_keeps setting now (Ok line.Flush) did step = ap (λ (d : Did). d.now.files) step
step_keeps setting now (Ok (line.GetTxOut key)) did step = ap (λ (d : Did). d.now.files) step
step_keeps setting now (Ok line.Info) did step = ap (λ (d : Did). d.now.files) step
