-- Flushes that are told once their lines were written.
use Rattle.std.proofs.Common.{◌≡◌, ℕ, Bool, true, false, cond, ◌&&◌, List, [], ◌∷◌, map, refl, sym, ap, ◌∙◌, is_some}
use Rattle.std.specs.Prelude.{filter}
use Rattle.std.specs.List.{AllByRecursion}
use Rattle.disk_model.specs.Disk.{Image}
use Rattle.base_types.specs.Flushes.{told_of}
use Rattle.base_types.specs.declared.flushes.Chain.{Chain}
use Rattle.base_types.specs.declared.flushes.Flushed.{Flushed}
use Rattle.base_types.specs.declared.hash.Hash32.{Hash32}
use Rattle.base_types.specs.declared.program.Rules.{Rules}
use Rattle.store_state.specs.State.{StoreState}
use Rattle.machine.specs.Answers.{FlushName, name_of, is_done, has_line, AllDone, told_name, told_flushes, flushes_with_lines}
use Rattle.machine.specs.Calls.{Call, IsWhole, untold, SameButTold}
use Rattle.machine.specs.Clauses.{ReadsWithin}
use Rattle.machine.specs.Work.{AllUntold}
use Rattle.machine.proofs.Telling.{told_since, well_since}
use Rattle.command_loop.specs.Telling.{told_now}

abbrev either : Bool → Flushed → Flushed
either b f = cond b (told_of f) f

done_same : (b : Bool) (f : Flushed) → (either b f).done ≡ f.done
done_same true f = refl
done_same false f = refl

name_same : (b : Bool) (f : Flushed) → name_of (either b f) ≡ name_of f
name_same true f = refl
name_same false f = refl

abbrev is_tellable : Flushed → Bool
is_tellable f = is_done f && has_line f.why

-- ---- the calls that made them

untold_same : (b : Bool) (f : Flushed) → untold (either b f) ≡ untold f
untold_same true f = refl
untold_same false f = refl

same_told : (fs : List Flushed) → SameButTold fs (map told_now fs)
same_told [] = refl
same_told (f ∷ fs) = ap (λ (g : Flushed). g ∷ map untold (map told_now fs)) (untold_same (is_tellable f) f) ∙ ap (λ (gs : List Flushed). untold f ∷ gs) (same_told fs)

both_true : (a b : Bool) → (a && b) ≡ true → (a ≡ true) × (b ≡ true)
both_true true true e = (refl, refl)
both_true true false e = absurd cc
both_true false b e = absurd cc

reads_told : (low high : ℕ) (f : Flushed) → ReadsWithin low high f → ReadsWithin low high (told_now f)
reads_told low high f w = one (is_tellable f) refl
  where
    one : (b : Bool) → is_tellable f ≡ b → ReadsWithin low high (either b f)
    one true e = (w.0, w.1, w.2, λ told. both_true (is_done f) (has_line f.why) e)
    one false e = w

pub order_told : (low high : ℕ) (fs : List Flushed) → AllByRecursion (ReadsWithin low high) fs → AllByRecursion (ReadsWithin low high) (map told_now fs)
order_told low high [] all = tt
order_told low high (f ∷ fs) all = (reads_told low high f all.0, order_told low high fs all.1)

-- a call stays as it is when its flushes are told
pub whole_told : (limit : ℕ) (given : Rules) (past left : ℕ → Image → Type 0) (call : Call) (from on : StoreState) → IsWhole limit given past left call from on
    → IsWhole limit given past left (record call { flushes = map told_now call.flushes }) from on
whole_told limit given past left call from on whole = record {
  meets = told_since limit given past left call (map told_now call.flushes) from (same_told call.flushes) (order_told call.entered call.ended call.flushes whole.meets.in_order) whole.meets;
  well = well_since limit given past left call (map told_now call.flushes) from (same_told call.flushes) whole.well;
  ends = whole.ends;
}

-- ---- what they have

pub names_told : (fs : List Flushed) → map name_of (map told_now fs) ≡ map name_of fs
names_told [] = refl
names_told (f ∷ fs) = ap (λ (n : FlushName). n ∷ map name_of (map told_now fs)) (name_same (is_tellable f) f) ∙ ap (λ (ns : List FlushName). name_of f ∷ ns) (names_told fs)

pub done_told : (fs : List Flushed) → AllDone fs → AllDone (map told_now fs)
done_told [] all = tt
done_told (f ∷ fs) all = (ap is_some (done_same (is_tellable f) f) ∙ all.0, done_told fs all.1)

-- those that are told now are those with lines
pub told_lines : (fs : List Flushed) → AllUntold fs → told_flushes (map told_now fs) ≡ flushes_with_lines fs
told_lines [] all = refl
told_lines (f ∷ fs) all = one (is_tellable f) (told_lines fs all.1)
  where
    one : (b : Bool) → told_flushes (map told_now fs) ≡ flushes_with_lines fs
        → map told_name (filter (λ member. member.told) (either b f ∷ map told_now fs)) ≡ map told_name (cond b (f ∷ filter (λ member. is_done member && has_line member.why) fs) (filter (λ member. is_done member && has_line member.why) fs))
    one true rest = ap (λ (ns : List (Chain × Hash32)). told_name f ∷ ns) rest
    one false rest = ap (λ (b : Bool). map told_name (cond b (f ∷ filter (λ member. member.told) (map told_now fs)) (filter (λ member. member.told) (map told_now fs)))) all.0 ∙ rest

abbrev with_lines : List Flushed → List Flushed
with_lines gs = filter (λ member. is_done member && has_line member.why) gs

-- and those with lines stay
pub lines_told : (fs : List Flushed) → flushes_with_lines (map told_now fs) ≡ flushes_with_lines fs
lines_told [] = refl
lines_told (f ∷ fs) = one (is_tellable f) refl (lines_told fs)
  where
    one : (b : Bool) → is_tellable f ≡ b → flushes_with_lines (map told_now fs) ≡ flushes_with_lines fs
        → map told_name (with_lines (either b f ∷ map told_now fs)) ≡ map told_name (with_lines (f ∷ fs))
    one true e rest =
        ap (λ (b : Bool). map told_name (cond b (told_of f ∷ with_lines (map told_now fs)) (with_lines (map told_now fs)))) e
        ∙ ap (λ (ns : List (Chain × Hash32)). told_name f ∷ ns) rest
        ∙ sym (ap (λ (b : Bool). map told_name (cond b (f ∷ with_lines fs) (with_lines fs))) e)
    one false e rest =
        ap (λ (b : Bool). map told_name (cond b (f ∷ with_lines (map told_now fs)) (with_lines (map told_now fs)))) e
        ∙ rest
        ∙ sym (ap (λ (b : Bool). map told_name (cond b (f ∷ with_lines fs) (with_lines fs))) e)

-- none is told yet
pub none_told : (fs : List Flushed) → AllUntold fs → told_flushes fs ≡ []
none_told [] all = refl
none_told (f ∷ fs) all = ap (λ (b : Bool). map told_name (cond b (f ∷ filter (λ member. member.told) fs) (filter (λ member. member.told) fs))) all.0 ∙ none_told fs all.1
