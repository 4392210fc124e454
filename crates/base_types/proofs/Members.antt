-- A list of which one member is set.
use Rattle.std.proofs.Common.{arith, ◌≡◌, sym, ap, ◌∙◌, ◌++◌, [], ◌∷◌, length, ℕ, ◌-◌, List, slice_index_or, slice_set}
use Rattle.std.proofs.Math.Seq.{set-append_seam, get_or-append_seam}
use Rattle.std.proofs.lemmas.List.{length-append}

-- the member that is read at a place is changed there
pub changed_there : {A : Type 0} (change : A → A) (items front rest : List A) (read member : A) (place : ℕ) → read ≡ slice_index_or items place read → length front ≡ place → items ≡ front ++ member ∷ rest → slice_set items place (change read) ≡ front ++ change member ∷ rest
changed_there change items front rest read member place value long split =
    let here = value ∙ ap (λ xs. slice_index_or xs place read) split ∙ ap (λ n. slice_index_or (front ++ member ∷ rest) n read) (sym long) ∙ get_or-append_seam front member rest read in
    ap (λ xs. slice_set xs place (change read)) split ∙ ap (λ n. slice_set (front ++ member ∷ rest) n (change read)) (sym long) ∙ set-append_seam front member rest (change read) ∙ ap (λ (m : _). front ++ change m ∷ rest) here

-- the last of a list stands behind the others
pub last_place : {A : Type 0} (items front : List A) (member : A) → items ≡ front ++ member ∷ [] → length front ≡ length items - 1
last_place items front member split = let n = ap length split ∙ length-append front (member ∷ []) in omega arith
