-- The four device calls of an append, one after another.
use Rattle.std.proofs.Common.{◌≡◌, inl, ℕ, ◌+◌, ◌<◌, ◌≤◌, ◌^◌, arith, List, [], ◌∷◌, ◌++◌, length, sym, ◌∙◌, subst}
use Rattle.std.specs.Prelude.{Option, Some, Result}
use Rattle.disk_model.specs.Disk.{Image, At, Torn, Stays, Moves, Only, written}
use Rattle.disk_model.proofs.Moments.{SoFar, so_far_begins, so_far_steps, so_far_stays, so_far_durable}
use Rattle.batch_log.specs.Records.{body, records, EndsClosed, WithOrWithout, HoldsLog}
use Rattle.batch_log.proofs.Tears.{torn_none, torn_then}
use Rattle.batch_log.proofs.GateWrites.{Staged, torn_behind, written_behind, torn_gate, written_gate}

module _ {D : Type 0} (time : D → ℕ) (left : D → ℕ → Image → Type 0) (contents : D → Option Image)
    (file end : ℕ) (tail : List ℕ) (payloads : List (List ℕ)) (payload : List ℕ)
    (ends : end ≡ length (records payloads)) (fits : length payload < 2 ^ 32) (spelled : tail ≡ body payload ++ 0 ∷ [])
    (old : D) (holds : HoldsLog (contents old) (left old (time old)) file payloads) where
  abbrev pub Closed : List ℕ → List ℕ → Type 0
  Closed o b = EndsClosed payloads b

  abbrev pub Either : List ℕ → List ℕ → Type 0
  Either o b = WithOrWithout payloads payload o b

  abbrev pub Run : (List ℕ → List ℕ → Type 0) → D → Type 0
  Run Now d = SoFar (time old) (left old) file Either Now (time d) (left d)

  -- what stands in the file between the two writes
  abbrev pub staged : List ℕ
  staged = written (end + 1) tail (holds.image file)

  is_staged : Staged payloads payload staged
  is_staged = written_behind payloads end ends payload tail (holds.image file) spelled holds.reads

  pub first : {T E : Type 0} (new : D) (r : Result T E) → Moves (At file (Torn (end + 1) (length tail))) (time old) (time new) (left old) (left new) r → Run Closed new
  first new r m = so_far_steps (time old) (left old) file Either Closed Closed (Torn (end + 1) (length tail)) (time old) (time new) (left old) (left new) r
      (so_far_begins (time old) (left old) file Either Closed holds.outcomes) m (λ o. torn_behind payloads end ends (length tail)) (λ o b e. inl e)

  pub second : {T E : Type 0} (mid new : D) (r : Result T E) → Run Closed mid → Moves Stays (time mid) (time new) (left mid) (left new) r → Run Closed new
  second mid new r s m = so_far_stays (time old) (left old) file Either Closed (time mid) (time new) (left mid) (left new) r s m (λ o b e. inl e)

  pub third : {T E : Type 0} (mid new : D) (r : Result T E) → Run Closed mid → Only file staged (left mid (time mid))
      → Moves (At file (Torn end 1)) (time mid) (time new) (left mid) (left new) r → Run Either new
  third mid new r s only m = so_far_steps (time old) (left old) file Either (λ o b. EndsClosed payloads b × (b ≡ staged)) Either (Torn end 1) (time mid) (time new) (left mid) (left new) r
      (so_far_durable (time old) (left old) file Either Closed staged (time mid) (left mid) s only) m
      (λ o a b is torn. torn_gate payloads end ends payload staged b fits is_staged (subst (λ (f : List ℕ). Torn end 1 f b) is.1 torn)) (λ o b e. e)

  pub fourth : {T E : Type 0} (mid new : D) (r : Result T E) → Run Either mid → Moves Stays (time mid) (time new) (left mid) (left new) r → Run Either new
  fourth mid new r s m = so_far_stays (time old) (left old) file Either Either (time mid) (time new) (left mid) (left new) r s m (λ o b e. e)

  pub put_there : (new : D) (bytes : List ℕ) → bytes ≡ written end (1 ∷ []) staged → (image : Image) → contents new ≡ Some image → image file ≡ bytes → Only file bytes (left new (time new))
      → HoldsLog (contents new) (left new (time new)) file (payloads ++ payload ∷ [])
  put_there new bytes is image told at only =
      let whole = written_gate payloads end ends payload staged fits is_staged in
      record {
        image = image;
        told = told;
        reads = subst (EndsClosed (payloads ++ payload ∷ [])) (sym (at ∙ is)) whole;
        outcomes = λ c here. subst (EndsClosed (payloads ++ payload ∷ [])) (sym (only c here ∙ is)) whole;
      }

-- The same calls, seen as one write that was cut short.
module _ {D : Type 0} (time : D → ℕ) (left : D → ℕ → Image → Type 0) (file end n : ℕ) (old : D) where
  abbrev pub Within : List ℕ → List ℕ → Type 0
  Within o b = Torn end n o b

  abbrev pub RunWithin : D → Type 0
  RunWithin d = SoFar (time old) (left old) file Within Within (time d) (left d)

  pub none_within : RunWithin old
  none_within = so_far_begins (time old) (left old) file Within Within (λ c here. torn_none end n (c file))

  pub wrote_within : {T E : Type 0} (at k : ℕ) (mid new : D) (r : Result T E) → end ≤ at → at + k ≤ end + n → RunWithin mid
      → Moves (At file (Torn at k)) (time mid) (time new) (left mid) (left new) r → RunWithin new
  wrote_within at k mid new r from to s m = so_far_steps (time old) (left old) file Within Within Within (Torn at k) (time mid) (time new) (left mid) (left new) r s m
      (λ o a b w torn. torn_then end n end n at k o a b (omega arith) (omega arith) from to w torn) (λ o b w. w)

  pub synced_within : {T E : Type 0} (mid new : D) (r : Result T E) → RunWithin mid → Moves Stays (time mid) (time new) (left mid) (left new) r → RunWithin new
  synced_within mid new r s m = so_far_stays (time old) (left old) file Within Within (time mid) (time new) (left mid) (left new) r s m (λ o b w. w)
