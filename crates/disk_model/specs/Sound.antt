-- As it reads, a file is one of its images: laws that the disk in memory cites for those of the trait.
use Rattle.std.specs.Prelude.{◌⊎◌, ◌<◌, ◌≡◌, ℕ, ◌+◌, ◌≤◌, ◌||◌, max, Bool, true, false, List, length, get_or, refl}
use Rattle.std.proofs.Common.{arith, ◌∙◌, ⊎_elim}
use Rattle.std.proofs.lemmas.List.{places, length-take, get_or-take}
use Rattle.std.proofs.lemmas.Bool.Decides.{nat_tests}
use Rattle.disk_model.specs.Disk.{written}
use Rattle.disk_model.specs.Crash.{FileState, IsFileImage, in_range, at_rest, after_write, after_cut}

-- its bounds are in order, and it reads as one of its images
pub record IsSound (s : FileState) : Type 0 where
  pub lower : s.least ≤ length s.durable
  pub image : IsFileImage s s.reads

pub length-written : (at : ℕ) (xs r : List ℕ) → length (written at xs r) ≡ max (length r) (at + length xs)
length-written at xs r = grind (arith, places)

before_write : (at : ℕ) (xs r : List ℕ) (i : ℕ) → i < length r → i < at → get_or (written at xs r) i 0 ≡ get_or r i 0
before_write at xs r i l h = grind (arith, places)

behind_write : (at : ℕ) (xs r : List ℕ) (i : ℕ) → i < length r → at + length xs ≤ i → get_or (written at xs r) i 0 ≡ get_or r i 0
behind_write at xs r i l h = grind (arith, places)

pub or_false : (a b : Bool) → (a || b) ≡ false → (a ≡ false) × (b ≡ false)
or_false true b h = absurd (cc)
or_false false b h = (refl, h)

pub out_of_range : (at n i : ℕ) → in_range at n i ≡ false → (i < at ⊎ at + n ≤ i)
out_of_range at n i h = grind (arith, nat_tests)

pub rest_sound : (bytes : List ℕ) → IsSound (at_rest bytes)
rest_sound bytes = record {
  lower = omega arith;
  image = record { no_shorter = omega arith; no_longer = omega arith; kept = λ i below bare. refl };
}

pub write_sound : (at : ℕ) (xs : List ℕ) (s : FileState) → IsSound s → IsSound (after_write at xs s)
write_sound at xs s sound =
    let is = sound.image in
    let shorter = is.no_shorter in
    let longer = is.no_longer in
    let long = length-written at xs s.reads in
    record {
      lower = sound.lower;
      image = record {
        no_shorter = omega arith;
        no_longer = omega arith;
        kept = λ i below bare.
            let parts = or_false (s.covered i) (in_range at (length xs) i) bare in
            ⊎_elim (λ early. before_write at xs s.reads i (omega arith) early ∙ is.kept i below parts.0)
            (λ late. behind_write at xs s.reads i (omega arith) late ∙ is.kept i below parts.0)
            (out_of_range at (length xs) i parts.1);
      };
    }

pub cut_sound : (n : ℕ) (s : FileState) → IsSound s → IsSound (after_cut n s)
cut_sound n s sound =
    let is = sound.image in
    let lower = sound.lower in
    let shorter = is.no_shorter in
    let longer = is.no_longer in
    let long = length-take n s.reads in
    record {
      lower = omega arith;
      image = record {
        no_shorter = omega arith;
        no_longer = omega arith;
        kept = λ i below bare. get_or-take n s.reads i 0 (omega arith) ∙ is.kept i (omega arith) bare;
      };
    }
