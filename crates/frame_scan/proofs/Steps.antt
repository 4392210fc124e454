-- The steps of a scan over a host that tells its files, one after another.
use Rattle.std.proofs.Common.{◌≡◌, ◌≤◌, ◌+◌, ◌-◌, ℕ, List, [], ◌∷◌, length, drop, refl, sym, ap, ◌∙◌, arith}
use Rattle.std.specs.Prelude.{◌++◌, Option, Some, None, true}
use Rattle.std.proofs.lemmas.List.{drop-drop, length-drop}
use Rattle.io_traits.specs.Host.{Held, unread_bytes, after_reading}
use Rattle.io_traits.proofs.HostRuns.{after_reading-none, after_reading-twice, unread_bytes-after}
use Rattle.io_traits.specs.Told.{OnTold}
use Rattle.io_traits.proofs.Told.{OnTold-same, OnTold-then, OnTold-weaker}
use Rattle.block_codec.specs.declared.block.Block.{Block}
use Rattle.block_codec.specs.declared.block.Header.{Header}
use Rattle.block_codec.specs.Frames.{frames_after}
use Rattle.frame_scan.specs.Scan.{Scan, bytes_taken, bytes_left, plain_from, frames_left, Moves, Passes, Advances}
use Rattle.frame_scan.specs.Search.{Ends}
use Rattle.frame_scan.proofs.Scans.{plain_from-nil}

moves_none : (n : ℕ) (s : Held) → s ≡ after_reading (n - n) s
moves_none n s = let none : 0 ≡ n - n = omega arith in after_reading-none s ∙ ap (λ (m : ℕ). after_reading m s) none

stays : (n : ℕ) (xs : List ℕ) → xs ≡ drop (n - n) xs
stays n xs = let none : 0 ≡ n - n = omega arith in ap (λ (m : ℕ). drop m xs) none

pub Advances-none : (a : Option Held) (scan : Scan) → OnTold a a (Advances scan scan)
Advances-none a scan = OnTold-same (Advances scan scan) a (λ s. record { frames = refl; moves = moves_none (bytes_taken scan) s; passes = stays scan.passed (bytes_left scan s); read = omega arith })

moves_then : (a b c : ℕ) (s t u : Held) → a ≤ b → b ≤ c → t ≡ after_reading (b - a) s → u ≡ after_reading (c - b) t → u ≡ after_reading (c - a) s
moves_then a b c s t u one two first second =
    let whole : (b - a) + (c - b) ≡ c - a = omega arith in
    second ∙ ap (after_reading (c - b)) first ∙ after_reading-twice (b - a) (c - b) s ∙ ap (λ (m : ℕ). after_reading m s) whole

drops_then : (a b c : ℕ) (xs ys zs : List ℕ) → a ≤ b → b ≤ c → ys ≡ drop (b - a) xs → zs ≡ drop (c - b) ys → zs ≡ drop (c - a) xs
drops_then a b c xs ys zs one two first second =
    let whole : (b - a) + (c - b) ≡ c - a = omega arith in
    second ∙ ap (drop (c - b)) first ∙ drop-drop (c - b) (b - a) xs ∙ ap (λ (m : ℕ). drop m xs) whole

-- no more was read than stood there
reads_then : (a b c : ℕ) (s t : Held) → a ≤ b → t ≡ after_reading (b - a) s → b ≤ a + length (unread_bytes s) → c ≤ b + length (unread_bytes t) → c ≤ a + length (unread_bytes s)
reads_then a b c s t one moves first second =
    let len : length (unread_bytes t) ≡ length (unread_bytes s) - (b - a) = ap (λ (h : Held). length (unread_bytes h)) moves ∙ ap length (unread_bytes-after (b - a) s) ∙ length-drop (b - a) (unread_bytes s) in
    omega (arith, len, first, second, one)

pub Advances-then : (old new next : Scan) (s t u : Held) → old.passed ≤ new.passed → new.passed ≤ next.passed → bytes_taken old ≤ bytes_taken new → bytes_taken new ≤ bytes_taken next → Advances old new s t → Advances new next t u → Advances old next s u
Advances-then old new next s t u p q m n first second = record {
  frames = second.frames ∙ first.frames;
  moves = moves_then (bytes_taken old) (bytes_taken new) (bytes_taken next) s t u m n first.moves second.moves;
  passes = drops_then old.passed new.passed next.passed (bytes_left old s) (bytes_left new t) (bytes_left next u) p q first.passes second.passes;
  read = reads_then (bytes_taken old) (bytes_taken new) (bytes_taken next) s t m first.moves first.read second.read;
}

-- ---- what a host tells of two calls

both : {S : Type 0} (P Q : S → S → Type 0) (a b : Option S) → OnTold a b P → OnTold a b Q → OnTold a b (λ s t. P s t × Q s t)
both P Q None None first second = tt
both P Q None (Some t) first second = absurd first
both P Q (Some s) None first second = absurd first
both P Q (Some s) (Some t) first second = (first, second)

-- a search went on
searched : (old new : Scan) (held : Held) → bytes_taken new ≡ bytes_taken old → frames_left new held ≡ frames_left old held → Passes old new held held → Advances old new held held
searched old new held same frames passes = record {
  frames = frames;
  moves = moves_none (bytes_taken old) held ∙ ap (λ (n : ℕ). after_reading (n - bytes_taken old) held) (sym same);
  passes = passes;
  read = omega (arith, same);
}

pub Advances-searched : (a b : Option Held) (old mid new : Scan) → old.passed ≤ mid.passed → mid.passed ≤ new.passed → bytes_taken old ≤ bytes_taken mid → bytes_taken new ≡ bytes_taken mid
    → OnTold a b (Advances old mid) → ((held : Held) → frames_left new held ≡ frames_left mid held) → ((held : Held) → Passes mid new held held) → OnTold a b (Advances old new)
Advances-searched a b old mid new p q m n so_far frames passes =
    let more : bytes_taken mid ≤ bytes_taken new = omega (arith, n) in
    OnTold-weaker (Advances old mid) (Advances old new) a b (λ s t first. Advances-then old mid new s t t p q m more first (searched mid new t n (frames t) (passes t))) so_far

-- a search went on at the end of the file
pub Advances-ended : (a b : Option Held) (old mid new : Scan) → old.passed ≤ mid.passed → mid.passed ≤ new.passed → bytes_taken old ≤ bytes_taken mid → bytes_taken new ≡ bytes_taken mid
    → OnTold a b (Advances old mid) → OnTold a b (λ s t. unread_bytes t ≡ []) → ((held : Held) → Ends true held → frames_left new held ≡ frames_left mid held) → ((held : Held) → Passes mid new held held) → OnTold a b (Advances old new)
Advances-ended a b old mid new p q m n so_far ended frames passes =
    let more : bytes_taken mid ≤ bytes_taken new = omega (arith, n) in
    OnTold-weaker (λ s t. Advances old mid s t × (unread_bytes t ≡ [])) (Advances old new) a b (λ s t first. Advances-then old mid new s t t p q m more first.0 (searched mid new t n (frames t first.1) (passes t)))
    (both (Advances old mid) (λ s t. unread_bytes t ≡ []) a b so_far ended)

-- a piece was taken
pub Advances-taken : (a b c : Option Held) (old mid new : Scan) → old.passed ≤ mid.passed → new.passed ≡ mid.passed → bytes_taken old ≤ bytes_taken mid → bytes_taken mid ≤ bytes_taken new
    → OnTold a b (Advances old mid) → OnTold b c (λ s t. bytes_left new t ≡ bytes_left mid s) → OnTold b c (Moves mid new) → OnTold b c (λ t u. bytes_taken new ≤ bytes_taken mid + length (unread_bytes t)) → OnTold a c (Advances old new)
Advances-taken a b c old mid new p q m n so_far same moves read =
    OnTold-then (Advances old mid) (λ t u. ((bytes_left new u ≡ bytes_left mid t) × Moves mid new t u) × (bytes_taken new ≤ bytes_taken mid + length (unread_bytes t))) (Advances old new) a b c (λ s t u first second.
    let less : mid.passed ≤ new.passed = omega arith in
    Advances-then old mid new s t u p less m n first (record {
      frames = ap (frames_after 0) second.0.0;
      moves = second.0.1;
      read = second.1;
      passes = second.0.0 ∙ stays mid.passed (bytes_left mid t) ∙ ap (λ (k : ℕ). drop (k - mid.passed) (bytes_left mid t)) (sym q);
    }))
    so_far (both (λ t u. (bytes_left new u ≡ bytes_left mid t) × Moves mid new t u) (λ t u. bytes_taken new ≤ bytes_taken mid + length (unread_bytes t)) b c (both (λ t u. bytes_left new u ≡ bytes_left mid t) (Moves mid new) b c same moves) read)

-- ---- what was taken after such steps

-- the end of the file, as it is after earlier steps
pub ended_then : (a b c : Option Held) (old mid : Scan) → OnTold a b (Advances old mid) → OnTold b c (λ t u. unread_bytes u ≡ []) → OnTold a c (λ s u. unread_bytes u ≡ [])
ended_then a b c old mid = OnTold-then (Advances old mid) (λ t u. unread_bytes u ≡ []) (λ s u. unread_bytes u ≡ []) a b c (λ s t u first second. second)

pub passes_then : (a b : Option Held) (old mid new : Scan) → old.passed ≤ mid.passed → mid.passed ≤ new.passed → OnTold a b (Advances old mid) → ((held : Held) → Passes mid new held held) → OnTold a b (Passes old new)
passes_then a b old mid new p q so_far passes =
    OnTold-weaker (Advances old mid) (Passes old new) a b (λ s t first. drops_then old.passed mid.passed new.passed (bytes_left old s) (bytes_left mid t) (bytes_left new t) p q first.passes (passes t)) so_far

pub header_then : (a b : Option Held) (old mid new : Scan) (header : Header) → OnTold a b (Advances old mid)
    → ((held : Held) → (block : Block) × (header ≡ block.header) × (frames_left mid held ≡ block ∷ frames_left new held))
    → OnTold a b (λ s t. (block : Block) × (header ≡ block.header) × (frames_left old s ≡ block ∷ frames_left new t))
header_then a b old mid new header so_far frame =
    OnTold-weaker (Advances old mid) (λ s t. (block : Block) × (header ≡ block.header) × (frames_left old s ≡ block ∷ frames_left new t)) a b
    (λ s t first. let next = frame t in (next.0, next.1, sym first.frames ∙ next.2)) so_far

nothing_left : (scan : Scan) (held : Held) → scan.ahead ≡ [] → unread_bytes held ≡ [] → frames_left scan held ≡ []
unfolding frames_after
nothing_left scan held none ended =
    ap (λ (zs : List ℕ). frames_after 0 (scan.ahead ++ plain_from scan.key (bytes_taken scan) zs)) ended
    ∙ ap (λ (zs : List ℕ). frames_after 0 (scan.ahead ++ zs)) (plain_from-nil scan.key (bytes_taken scan))
    ∙ ap (λ (zs : List ℕ). frames_after 0 (zs ++ [])) none

pub none_left : (a b : Option Held) (old new : Scan) → OnTold a b (Advances old new) → OnTold a b (λ s t. unread_bytes t ≡ []) → new.ahead ≡ [] → OnTold a b (λ s t. (frames_left old s ≡ []) × (unread_bytes t ≡ []))
none_left a b old new so_far ended none =
    OnTold-weaker (λ s t. Advances old new s t × (unread_bytes t ≡ [])) (λ s t. (frames_left old s ≡ []) × (unread_bytes t ≡ [])) a b
    (λ s t all. (sym all.0.frames ∙ nothing_left new t none all.1, all.1)) (both (Advances old new) (λ s t. unread_bytes t ≡ []) a b so_far ended)
