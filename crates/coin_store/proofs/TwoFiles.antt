-- Opening the base file, and then the coin file.
use Rattle.std.specs.Prelude.{◌≡◌, ◌≢◌, ◌⊎◌, ℕ, ◌+◌, ◌-◌, ◌<◌, ◌≤◌, Bool, true, false, min, List, [], ◌∷◌, length, take, drop, nat_le, Option, Some, None, Ok, refl}
use Rattle.std.proofs.Common.{cond, eqb, sym, ap, subst, ◌∙◌, arith, inl, inr, ⊎_elim, eq-eqb}
use Rattle.std.proofs.lemmas.Bool.{cases_Bool, cases_lt, eqb-true}
use Rattle.std.proofs.lemmas.Bool.Decides.{nat_tests}
use Rattle.std.proofs.lemmas.List.{take_all, take-take, drop-take}
use Rattle.disk_model.specs.Disk.{Image, At, Torn, Leaves, Quiet, Only}
use Rattle.disk_model.proofs.Moments.{IsSinceEarlier, leaves_quiet, leaves_then, leaves_wider, elsewhere}
use Rattle.batch_log.specs.Reading.{ReadAtMost}
use Rattle.batch_log.specs.Records.{SameLog, log, payloads_from}
use Rattle.coin_store.specs.Files.{IsOneOf, IsBaseFile, IsTiny, InFiles, OthersKeptBut, log_reads, base_reads, store_reads, ReadWithin}
use Rattle.coin_store.proofs.RowLaws.{some_is}

-- ---- a file is this one, or another

same_or_not : (f g : ℕ) → (f ≡ g) ⊎ (f ≢ g)
same_or_not f g = elim (cases_Bool (eqb f g)) [
  | inl t ↦ inl (eqb-true f g t)
  | inr apart ↦ inr (λ e. let t = eq-eqb f g e in cc)
]

base_or_not : (base : Option ℕ) (f : ℕ) → (base ≡ Some f) ⊎ (base ≢ Some f)
base_or_not None f = inr (λ e. cc)
base_or_not (Some file) f = elim (same_or_not file f) [
  | inl e ↦ inl (ap (λ (g : ℕ). Some g) e)
  | inr apart ↦ inr (λ e. apart (some_is file f e))
]

-- ---- steps

abbrev IsStill : (List ℕ → List ℕ → Type 0) → Type 0
IsStill Step = (bytes : List ℕ) → Step bytes bytes

abbrev GoesOn : (List ℕ → List ℕ → Type 0) → Type 0
GoesOn Step = (a b c : List ℕ) → Step a b → Step b c → Step a c

pub same_still : IsStill SameLog
same_still bytes = refl

pub same_on : GoesOn SameLog
same_on a b c s t = t ∙ s

pub torn_still : IsStill (Torn 0 1)
torn_still bytes =
    let none : min 0 (length bytes) ≡ 0 = omega arith in
    record {
      before = ap (λ (n : ℕ). take n bytes) none;
      after = ap (drop 1) (take_all (length bytes) bytes (omega arith));
      no_shorter = omega arith;
      no_longer = omega arith;
    }

behind_first : (n : ℕ) (xs ys : List ℕ) → drop 1 xs ≡ drop 1 ys → drop 1 (take n xs) ≡ drop 1 (take n ys)
behind_first n xs ys e = elim (cases_lt 0 n) [
  | inl some ↦
      let is : n ≡ 1 + (n - 1) = omega (arith, some) in
      ap (λ (k : ℕ). drop 1 (take k xs)) is ∙ drop-take 1 (n - 1) xs ∙ ap (λ (l : List ℕ). take (n - 1) l) e ∙ sym (drop-take 1 (n - 1) ys) ∙ ap (λ (k : ℕ). drop 1 (take k ys)) (sym is)
  | inr none ↦
      let is : n ≡ 0 = omega (arith, none) in
      ap (λ (k : ℕ). drop 1 (take k xs)) is ∙ ap (λ (k : ℕ). drop 1 (take k ys)) (sym is)
]

pub torn_on : GoesOn (Torn 0 1)
torn_on a b c s t =
    let none : (l : List ℕ) → min 0 (length l) ≡ 0 = λ l. omega arith in
    let longer = s.no_shorter in
    let limit = s.no_longer in
    record {
      before = ap (λ (n : ℕ). take n c) (none a);
      after = ap (drop 1) (sym (take-take (length a) (length b) c longer)) ∙ behind_first (length a) (take (length b) c) b t.after ∙ s.after;
      no_shorter = omega (arith, longer, t.no_shorter);
      no_longer = omega (arith, limit, t.no_longer);
    }

-- a step of one of the files
pub in_files : (IsFile : ℕ → Type 0) (Step : List ℕ → List ℕ → Type 0) → IsStill Step → (file : ℕ) → IsFile file → (a b : Image) → At file Step a b → InFiles IsFile Step a b
in_files IsFile Step still file this a b s = record {
  each = λ f. elim (same_or_not f file) [
    | inl e ↦ subst (λ (g : ℕ). Step (a g) (b g)) (sym e) s.here
    | inr apart ↦ subst (Step (a f)) (sym (s.others f apart)) (still (a f))
  ];
  others = λ f none. s.others f (λ e. none (subst IsFile (sym e) this));
}

pub files_wider : (IsFile Wider : ℕ → Type 0) (Step : List ℕ → List ℕ → Type 0) → ((f : ℕ) → IsFile f → Wider f) → (a b : Image) → InFiles IsFile Step a b → InFiles Wider Step a b
files_wider IsFile Wider Step wider a b s = record { each = s.each; others = λ f none. s.others f (λ this. none (wider f this)) }

files_then : (IsFile : ℕ → Type 0) (Step : List ℕ → List ℕ → Type 0) → GoesOn Step → (a b c : Image) → InFiles IsFile Step a b → InFiles IsFile Step b c → InFiles IsFile Step a c
files_then IsFile Step on a b c s t = record { each = λ f. on (a f) (b f) (c f) (s.each f) (t.each f); others = λ f none. t.others f none ∙ s.others f none }

module _ {D : Type 0} (time : D → ℕ) (left : D → ℕ → Image → Type 0) (base : Option ℕ) (coins : ℕ) (Step : List ℕ → List ℕ → Type 0) where
  -- the base file alone
  pub base_leaves : (old new : D) → Leaves time left (InFiles (IsBaseFile base) Step) old new → Leaves time left (InFiles (IsOneOf base coins) Step) old new
  base_leaves old new l = leaves_wider time left (InFiles (IsBaseFile base) Step) (InFiles (IsOneOf base coins) Step) old new (files_wider (IsBaseFile base) (IsOneOf base coins) Step (λ f this. inl this)) l

  -- both files
  pub both_leave : IsSinceEarlier time left → IsStill Step → GoesOn Step → (old mid new : D) → Leaves time left (InFiles (IsBaseFile base) Step) old mid → Leaves time left (At coins Step) mid new
      → Leaves time left (InFiles (IsOneOf base coins) Step) old new
  both_leave earlier still on old mid new a b =
      let first : (x y : Image) → InFiles (IsBaseFile base) Step x y → InFiles (IsOneOf base coins) Step x y = files_wider (IsBaseFile base) (IsOneOf base coins) Step (λ f this. inl this) in
      let second : (x y : Image) → At coins Step x y → InFiles (IsOneOf base coins) Step x y = in_files (IsOneOf base coins) Step still coins (inr refl) in
      leaves_then time left earlier (InFiles (IsBaseFile base) Step) (At coins Step) (InFiles (IsOneOf base coins) Step) old mid new first second
      (λ x y z s t. files_then (IsOneOf base coins) Step on x y z (first x y s) (second y z t)) a b

  -- a file of at most one byte is one closed gate after both
  pub both_tiny : IsSinceEarlier time left → (mid new : D) (m : Image) → Leaves time left (At coins Step) mid new → ((f : ℕ) → base ≡ Some f → length (m f) ≤ 1 → Only f (0 ∷ []) (left mid (time mid)))
      → (length (m coins) ≤ 1 → Only coins (0 ∷ []) (left new (time new))) → (f : ℕ) → IsOneOf base coins f → length (m f) ≤ 1 → Only f (0 ∷ []) (left new (time new))
  both_tiny earlier mid new m l first second f this few = elim (same_or_not f coins) [
    | inl e ↦ subst (λ (g : ℕ). Only g (0 ∷ []) (left new (time new))) (sym e) (second (subst (λ (g : ℕ). length (m g) ≤ 1) e few))
    | inr apart ↦ λ c now.
        let e = elsewhere time left earlier coins Step mid new l f apart c now in
        e.2 ∙ first f (⊎_elim (λ b. b) (λ e. absurd (apart e)) this) few e.0 e.1
  ]

-- the base file's log, where there is one
pub file_leaves : {D : Type 0} (time : D → ℕ) (left : D → ℕ → Image → Type 0) (base : Option ℕ) (Step : List ℕ → List ℕ → Type 0) (file : ℕ) → base ≡ Some file → IsStill Step → (old new : D) → Leaves time left (At file Step) old new
    → Leaves time left (InFiles (IsBaseFile base) Step) old new
file_leaves time left base Step file this still old new l = leaves_wider time left (At file Step) (InFiles (IsBaseFile base) Step) old new (in_files (IsBaseFile base) Step still file this) l

-- ---- files of more than one byte stay

module _ {D : Type 0} (time : D → ℕ) (left : D → ℕ → Image → Type 0) where
  -- a file that is one of these where it has at most one byte
  pub log_leaves : (IsFile : ℕ → Type 0) (file : ℕ) (m : Image) → (length (m file) ≤ 1 → IsFile file) → (old new : D) → Leaves time left (At file SameLog) old new → (1 < length (m file) → Quiet time left old new)
      → Leaves time left (InFiles IsFile SameLog) old new
  log_leaves IsFile file m this old new l quiet = elim (cases_lt 1 (length (m file))) [
    | inl long ↦ leaves_quiet time left (InFiles IsFile SameLog) old new (quiet long)
    | inr few ↦ leaves_wider time left (At file SameLog) (InFiles IsFile SameLog) old new (in_files IsFile SameLog same_still file (this few)) l
  ]

  pub tiny_base_leaves : (base : Option ℕ) (coins : ℕ) (m : Image) (old new : D) → Leaves time left (InFiles (IsTiny (IsBaseFile base) m) SameLog) old new → Leaves time left (InFiles (IsTiny (IsOneOf base coins) m) SameLog) old new
  tiny_base_leaves base coins m old new l = leaves_wider time left (InFiles (IsTiny (IsBaseFile base) m) SameLog) (InFiles (IsTiny (IsOneOf base coins) m) SameLog) old new
      (files_wider (IsTiny (IsBaseFile base) m) (IsTiny (IsOneOf base coins) m) SameLog (λ f t. (inl t.0, t.1))) l

  -- the base file's log, and then that of the coin file
  pub tiny_both_leave : IsSinceEarlier time left → (base : Option ℕ) (coins : ℕ) (m n : Image) → (length (n coins) ≤ 1 → length (m coins) ≤ 1) → (old mid new : D) → Leaves time left (InFiles (IsTiny (IsBaseFile base) m) SameLog) old mid
      → Leaves time left (At coins SameLog) mid new → (1 < length (n coins) → Quiet time left mid new) → Leaves time left (InFiles (IsTiny (IsOneOf base coins) m) SameLog) old new
  tiny_both_leave earlier base coins m n tiny old mid new a b quiet =
      let IsFile = IsTiny (IsOneOf base coins) m in
      let second : Leaves time left (InFiles IsFile SameLog) mid new = log_leaves IsFile coins n (λ few. (inr refl, tiny few)) mid new b quiet in
      leaves_then time left earlier (InFiles IsFile SameLog) (InFiles IsFile SameLog) (InFiles IsFile SameLog) old mid new (λ x y s. s) (λ x y s. s)
      (λ x y z s t. files_then IsFile SameLog same_on x y z s t) (tiny_base_leaves base coins m old mid a) second

-- ---- what is told

pub told_but : (IsFile : ℕ → Type 0) (old mid : Option Image) (m : Image) → OthersKeptBut IsFile old mid → old ≡ Some m → (n : Image) × (mid ≡ Some n) × ((f : ℕ) → (IsFile f → ⊥) → n f ≡ m f)
told_but IsFile None None m kept is = absurd cc
told_but IsFile None (Some n) m kept is = absurd kept
told_but IsFile (Some l) None m kept is = absurd kept
told_but IsFile (Some l) (Some n) m kept is =
    let same : l ≡ m = cc in
    (n, refl, λ f none. kept f none ∙ ap (λ (i : Image). i f) same)

-- ---- what a file has once another was opened

-- the same bytes, or at most one before and after
abbrev pub Alike : List ℕ → List ℕ → Type 0
Alike before after = (after ≡ before) ⊎ ((length before ≤ 1) × (length after ≤ 1))

le_true : (a b : ℕ) → a ≤ b → nat_le a b ≡ true
le_true a b h = grind (arith, nat_tests)

pub tiny_log : (bytes : List ℕ) → length bytes ≤ 1 → log bytes ≡ Ok []
tiny_log bytes h = ap (λ b. cond b (Ok []) (payloads_from 0 0 bytes)) (le_true (length bytes) 1 h)

pub tiny_reads : (bytes : List ℕ) → length bytes ≤ 1 → log_reads bytes ≡ 5
tiny_reads bytes h = ap (λ b. cond b 5 (length bytes + 5)) (le_true (length bytes) 1 h)

pub alike_log : (a b : List ℕ) → Alike a b → log b ≡ log a
alike_log a b same = ⊎_elim (λ e. ap log e) (λ few. tiny_log b few.1 ∙ sym (tiny_log a few.0)) same

pub alike_reads : (a b : List ℕ) → Alike a b → log_reads b ≡ log_reads a
alike_reads a b same = ⊎_elim (λ e. ap log_reads e) (λ few. tiny_reads b few.1 ∙ sym (tiny_reads a few.0)) same

pub alike_tiny : (a b : List ℕ) → Alike a b → length a ≤ 1 → length b ≤ 1
alike_tiny a b same few = ⊎_elim (λ e. subst (λ (l : List ℕ). length l ≤ 1) (sym e) few) (λ both. both.1) same

pub alike_before : (a b : List ℕ) → Alike a b → length b ≤ 1 → length a ≤ 1
alike_before a b same few = ⊎_elim (λ e. subst (λ (l : List ℕ). length l ≤ 1) e few) (λ both. both.0) same

pub alike : (base : Option ℕ) (old mid : Option Image) (m n : Image) → old ≡ Some m → mid ≡ Some n → ((f : ℕ) → base ≢ Some f → n f ≡ m f) → (((f : ℕ) → base ≡ Some f → 1 < length (m f)) → mid ≡ old)
    → ((f : ℕ) → base ≡ Some f → length (m f) ≤ 1 → n f ≡ 0 ∷ []) → (f : ℕ) → Alike (m f) (n f)
alike base old mid m n was is others long tiny f = elim (base_or_not base f) [
  | inr apart ↦ inl (others f apart)
  | inl this ↦ elim (cases_lt 1 (length (m f))) [
    | inr few ↦ inr (few, omega (arith, ap length (tiny f this few)))
    | inl more ↦
        let all : (g : ℕ) → base ≡ Some g → 1 < length (m g) = λ g that. subst (λ (h : ℕ). 1 < length (m h)) (some_is f g (sym this ∙ that)) more in
        let same : n ≡ m = some_is n m (sym is ∙ long all ∙ was) in
        inl (ap (λ (i : Image). i f) same)
  ]
]

-- the contents once the base file was opened
pub record Between (mid : Option Image) (m : Image) : Type 0 where
  pub image : Image
  pub told : mid ≡ Some image
  pub same : (f : ℕ) → Alike (m f) (image f)

pub between : {D : Type 0} (time : D → ℕ) (left : D → ℕ → Image → Type 0) (contents : D → Option Image) → ((d : D) (m : Image) → contents d ≡ Some m → left d (time d) m) → (base : Option ℕ) (old mid : D) (m : Image) → contents old ≡ Some m
    → OthersKeptBut (IsBaseFile base) (contents old) (contents mid) → (((f : ℕ) → base ≡ Some f → 1 < length (m f)) → contents mid ≡ contents old)
    → ((f : ℕ) → base ≡ Some f → length (m f) ≤ 1 → Only f (0 ∷ []) (left mid (time mid))) → Between (contents mid) m
between time left contents reads_as base old mid m told kept long tiny =
    let t = told_but (IsBaseFile base) (contents old) (contents mid) m kept told in
    record {
      image = t.0;
      told = t.1;
      same = alike base (contents old) (contents mid) m t.0 told t.1 t.2 long (λ f this few. tiny f this few t.0 (reads_as mid t.0 t.1));
    }

-- ---- what is read

some_reads : (bytes : List ℕ) → 0 < log_reads bytes
some_reads bytes = some (nat_le (length bytes) 1) where
  some : (b : Bool) → 0 < cond b 5 (length bytes + 5)
  some true = omega arith
  some false = omega arith

-- of one file
pub reads_one : (file : ℕ) (m : Image) (old new : Option (ℕ → ℕ)) → ReadAtMost file (log_reads (m file)) old new → ReadWithin (base_reads (Some file) m) old new
reads_one file m None None r = tt
reads_one file m None (Some now) r = absurd r
reads_one file m (Some before) None r = absurd r
reads_one file m (Some before) (Some now) r = λ f. elim (cases_Bool (eqb f file)) [
  | inl t ↦
      let e : f ≡ file = eqb-true f file t in
      let most : now f ≤ before f + log_reads (m f) = subst (λ (g : ℕ). now g ≤ before g + log_reads (m g)) (sym e) r.0 in
      let some = some_reads (m f) in
      rw t (most, λ none. absurd (omega (arith, none, some)))
  | inr apart ↦
      let same = r.1 f (λ e. let t = eq-eqb f file e in cc) in
      rw apart (omega (arith, same), λ none. same)
]

-- of the base file alone
pub reads_base : (base : Option ℕ) (coins : ℕ) (m : Image) (old new : Option (ℕ → ℕ)) → ReadWithin (base_reads base m) old new → ReadWithin (store_reads base coins m) old new
reads_base base coins m None None r = tt
reads_base base coins m None (Some now) r = absurd r
reads_base base coins m (Some before) None r = absurd r
reads_base base coins m (Some before) (Some now) r = λ f.
    let most = (r f).0 in
    (omega (arith, most), λ none. (r f).1 (omega (arith, none)))

-- and then of the coin file
pub reads_both : (base : Option ℕ) (coins : ℕ) (m : Image) (old mid new : Option (ℕ → ℕ)) → ReadWithin (base_reads base m) old mid → ReadAtMost coins (log_reads (m coins)) mid new → ReadWithin (store_reads base coins m) old new
reads_both base coins m None None None a b = tt
reads_both base coins m None None (Some now) a b = absurd b
reads_both base coins m (Some before) (Some between) None a b = absurd b
reads_both base coins m None (Some between) new a b = absurd a
reads_both base coins m (Some before) None new a b = absurd a
reads_both base coins m (Some before) (Some between) (Some now) a b = λ f. elim (cases_Bool (eqb f coins)) [
  | inl t ↦
      let e : f ≡ coins = eqb-true f coins t in
      let most : now f ≤ between f + log_reads (m f) = subst (λ (g : ℕ). now g ≤ between g + log_reads (m g)) (sym e) b.0 in
      let some = some_reads (m f) in
      let first = (a f).0 in
      rw t (omega (arith, first, most), λ none. absurd (omega (arith, none, some)))
  | inr apart ↦
      let same = b.1 f (λ e. let t = eq-eqb f coins e in cc) in
      let first = (a f).0 in
      rw apart (omega (arith, first, same), λ none. same ∙ (a f).1 (omega (arith, none)))
]
