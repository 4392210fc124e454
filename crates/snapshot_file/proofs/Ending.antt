-- Where `finish` answers Ok.
use Rattle.std.specs.Prelude.{◌≡◌, ℕ, Bool, true, false, List, length, map, Option, Some, None, Result, Ok, refl}
use Rattle.std.proofs.Common.{sym, ap, ◌∙◌, eqb}
use Rattle.std.proofs.lemmas.Bool.{eqb-true, eq-eqb}
use Rattle.std.proofs.lemmas.List.{length-map}
use Rattle.base_types.specs.Codec.{IsBytes}
use Rattle.base_types.specs.declared.hash.Hash32.{Hash32}
use Rattle.base_types.specs.declared.hash.OutPoint.{OutPoint}
use Rattle.base_types.specs.declared.coin.Coin.{Coin}
use Rattle.snapshot_file.specs.Items.{Wrong}
use Rattle.snapshot_file.specs.Part.{Part, read_part}
use Rattle.snapshot_file.specs.Fed.{entry, IsAll, is_whole, end_of, finish_of, Finishes}
use Rattle.snapshot_file.specs.declared.fault.SnapFault.{SnapFault}
use Rattle.snapshot_file.specs.declared.head.SnapHead.{SnapHead}
use Rattle.snapshot_file.proofs.WholeFiles.{whole_files}

all_ends : (part : Part) (base : Hash32) (coins : List (OutPoint × Coin)) (end : ℕ) → IsAll part base coins → end_of part.fault (is_whole part) end ≡ Ok tt
all_ends part base coins end a =
    let size : length part.coins ≡ length coins = sym (length-map part.coins entry) ∙ ap length a.entries in
    rw (a.no_fault, a.head, eq-eqb (length part.coins) (length coins) size) refl

ends_all : (part : Part) (end : ℕ) → end_of part.fault (is_whole part) end ≡ Ok tt → (base : Hash32) × IsAll part base (map entry part.coins)
ends_all part end e = go part.fault part.head refl refl where
  whole : (head : SnapHead) → part.head ≡ Some head → (b : Bool) → eqb (length part.coins) head.count ≡ b → part.fault ≡ None → (base : Hash32) × IsAll part base (map entry part.coins)
  whole head h true is f =
      let count : length (map entry part.coins) ≡ head.count = length-map part.coins entry ∙ eqb-true _ _ is in
      (head.base, record { head = h ∙ ap (λ (n : ℕ). Some (record { base = head.base; count = n })) (sym count); entries = refl; no_fault = f })
  whole head h false is f =
      let short : end_of part.fault (is_whole part) end ≡ end_of None false end = rw (f, h, is) refl in
      absurd cc

  go : (fault : Option Wrong) (head : Option SnapHead) → part.fault ≡ fault → part.head ≡ head → (base : Hash32) × IsAll part base (map entry part.coins)
  go (Some wrong) head f h =
      let bad_end : end_of part.fault (is_whole part) end ≡ end_of (Some wrong) (is_whole part) end = ap (λ (o : Option Wrong). end_of o (is_whole part) end) f in
      absurd cc
  go None None f h =
      let short : end_of part.fault (is_whole part) end ≡ end_of None false end = rw (f, h) refl in
      absurd cc
  go None (Some head) f h = whole head h (eqb (length part.coins) head.count) refl f

pub finishes : (result : Result (Unit {0}) SnapFault) (height : Option ℕ) (fed : List ℕ) → IsBytes fed → result ≡ finish_of height fed → Finishes height fed result
finishes result height fed fits is = record {
  exactly = λ base coins. (
    λ s. let a = (whole_files height fed fits base coins).0 s in (is ∙ all_ends (read_part height fed) base coins (length fed) a, a),
    λ b. (whole_files height fed fits base coins).1 b.1,
  );
  found = λ ok. ends_all (read_part height fed) (length fed) (sym is ∙ ok);
}
