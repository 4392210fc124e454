-- One transaction alone: what is read has that text, and what has a text is read.
use Rattle.std.proofs.Common.{◌≡◌, ℕ, eqb, List, [], ◌++◌, length, Some, Result, Ok, Err, refl, sym, ap, subst, ◌∙◌}
use Rattle.std.specs.Prelude.{IfOk}
use Rattle.std.proofs.lemmas.Bool.{eqb-true}
use Rattle.std.proofs.lemmas.List.{nil_from_length, append-nil}
use Rattle.base_types.specs.Reading.{place}
use Rattle.base_types.specs.Codec.{IsBytes, at}
use Rattle.base_types.proofs.Codecs.{guard_else, step}
use Rattle.block_codec.specs.declared.block.Tx.{Tx}
use Rattle.block_codec.specs.declared.fault.BlockError.TheVariants.{Trailing}
use Rattle.block_codec.specs.declared.fault.BlockFault.{BlockFault}
use Rattle.block_codec.specs.Fitting.{TxFits}
use Rattle.block_codec.specs.Reading.{Answers, tx_at}
use Rattle.block_codec.specs.Text.{tx_text, tx_has_text}
use Rattle.block_codec.specs.TxAlone.{tx_text_of, tx_of}
use Rattle.block_codec.proofs.HasText.{some_is, tx_fits, fits_tx}
use Rattle.block_codec.proofs.TxLaws.{tx_codec}

whole_takes : (bytes : List ℕ) (t : Tx) → IsBytes bytes → tx_of bytes ≡ Ok t → TxFits t × (bytes ≡ tx_text t)
unfolding tx_of
whole_takes bytes t fits e =
    let a = step tx_codec (at (length bytes) bytes) _ t fits e in
    let g = guard_else (eqb (length a.after.rest) 0) (Trailing, place a.after) a.value t a.goes_on in
    let nothing : a.after.rest ≡ [] = nil_from_length a.after.rest (eqb-true _ _ g.0) in
    let whole : bytes ≡ tx_text a.value = a.takes.parts ∙ ap (λ (r : List ℕ). tx_text a.value ++ r) nothing ∙ append-nil (tx_text a.value) in
    subst (λ (y : Tx). TxFits y × (bytes ≡ tx_text y)) g.1 (a.fits, whole)

pub tx_again : (t : Tx) → TxFits t → tx_of (tx_text t) ≡ Ok t
unfolding tx_of
tx_again t fits =
    let whole : tx_at (at (length (tx_text t)) (tx_text t)) ≡ Ok (t, at (length (tx_text t)) []) =
    ap (λ (y : List ℕ). tx_at (at (length (tx_text t)) y)) (sym (append-nil (tx_text t))) ∙ tx_codec.again t (length (tx_text t)) [] fits in
    rw whole refl

pub tx_text_from : (t : Tx) (bytes : List ℕ) → tx_text_of t ≡ Some bytes → TxFits t × (bytes ≡ tx_text t)
tx_text_from t bytes e =
    let p = some_is (tx_has_text t) (tx_text t) bytes e in
    (tx_fits t p.0, sym p.1)

text_is : (t : Tx) (bytes : List ℕ) → TxFits t → bytes ≡ tx_text t → tx_text_of t ≡ Some bytes
text_is t bytes fits e = rw (fits_tx t fits) (ap (λ (x : List ℕ). Some x) (sym e))

pub is_found_tx : (bytes : List ℕ) (r : Result Tx BlockFault) → IsBytes bytes → Answers r (tx_of bytes) → IfOk r (λ t. tx_text_of t ≡ Some bytes)
is_found_tx bytes (Ok t) fits given =
    let p = whole_takes bytes t fits given in
    text_is t bytes p.0 p.1
is_found_tx bytes (Err e) fits given = tt
