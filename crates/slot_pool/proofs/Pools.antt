-- One place of a pool is read or written.
use Rattle.std.proofs.Common.{◌≡◌, ◌+◌, ◌*◌, ◌/◌, ◌%◌, ◌<◌, ◌≤◌, ◌++◌, ℕ, List, [], ◌∷◌, set, get_or, length, replicate, Option, Some, None, IsSome, refl, sym, ap, ◌∙◌, subst, arith, length-set, length-append}
use Rattle.std.proofs.lemmas.List.{get_or_default, length-replicate}
use Rattle.std.specs.FinMap.{get, insert, remove, len}
use Rattle.slot_pool.specs.Pool.{Contents, contents}
use Rattle.slot_pool.specs.Layout.{AreWhole, places_of, map_from, numbers, Lists, IsPool}
use Rattle.slot_pool.proofs.Rows.{held_within}
use Rattle.slot_pool.proofs.Layouts.{get-map, map-put, map-take, last_vacant, Lists-put, Lists-take, length-places_of, get_or-places_of, set-places_of, AreWhole-set, AreWhole-push, places_of-push, Lists-grown, Lists-write, map-grow, len-map_from, used-take}

pub some_of : {T : Type 0} (o : Option T) → IsSome o → (x : T) × (o ≡ Some x)
some_of (Some x) h = (x, refl)
some_of None h = cc

module _ {T : Type 0} (css : List (List (Option T))) (i : ℕ) where
  abbrev q : ℕ
  q = i / 256

  abbrev r : ℕ
  r = i % 256

  parts : i ≡ q * 256 + r
  parts = omega arith

  below : r < 256
  below = omega arith

  pub chunk_below : AreWhole css → i < length (places_of css) → q < length css
  chunk_below w lt = omega (arith, length-places_of css w)

  pub found : AreWhole css → (x : T) → get_or (places_of css) i None ≡ Some x → q < length css
  found w x e = chunk_below w (held_within (places_of css) i x e)

  module _ (w : AreWhole css) (d : List (Option T)) (lt : q < length css) (e : d ≡ get_or css q d) where
    chunk : get_or css q [] ≡ d
    chunk = get_or_default css q [] d lt ∙ sym e

    pub place_read : get_or (places_of css) i None ≡ get_or d r None
    place_read = get_or-places_of css q r i w below parts ∙ ap (λ l. get_or l r None) chunk

    pub place_set : (c : Option T) → places_of (set css q (set d r c)) ≡ set (places_of css) i c
    place_set c = ap (λ l. places_of (set css q (set l r c))) (sym chunk) ∙ set-places_of css q r i c w below parts

    pub place_whole : (c : Option T) → AreWhole (set css q (set d r c))
    place_whole c = subst (λ l. AreWhole (set css q (set l r c))) chunk (AreWhole-set css q r c w)

-- the slot has a value
pub slot_found : {T : Type 0} (css : List (List (Option T))) (i : ℕ) → IsSome (get (map_from 0 (places_of css)) i) → (x : T) × (get_or (places_of css) i None ≡ Some x)
slot_found css i h = let o = some_of (get (map_from 0 (places_of css)) i) h in (o.0, sym (get-map (places_of css) i) ∙ o.1)

module _ {T : Type 0} (css : List (List (Option T))) (vs : List ℕ) (room : ℕ) (p : IsPool css vs room) (i : ℕ) (d : List (Option T)) (e : d ≡ get_or css (i / 256) d) where
  abbrev cs : List (Option T)
  cs = places_of css

  module _ (us : List ℕ) (x : T) (last : vs ≡ us ++ i ∷ []) where
    listed : Lists cs (us ++ i ∷ [])
    listed = subst (Lists cs) last p.lists

    at : (i < length cs) × (get_or cs i None ≡ None)
    at = last_vacant cs us i listed

    lt : i / 256 < length css
    lt = chunk_below css i p.whole at.0

    pub put_room : get_or d (i % 256) None ≡ None
    put_room = sym (place_read css i p.whole d lt e) ∙ at.1

    pub put_fresh : get (map_from 0 cs) i ≡ None
    put_fresh = get-map cs i ∙ at.1

    pub put_pool : (d' : List (Option T)) → d' ≡ set d (i % 256) (Some x) → IsPool (set css (i / 256) d') us room
    put_pool d' is =
        subst (λ l. IsPool (set css (i / 256) l) us room) (sym is) (record {
          whole = place_whole css i p.whole d lt e (Some x);
          lists = subst (λ l. Lists l us) (sym (place_set css i p.whole d lt e (Some x))) (Lists-put cs us i x listed);
          roomy = subst (λ n. n * 256 ≤ room) (sym (length-set css (i / 256) (set d (i % 256) (Some x)))) p.roomy;
          few = subst (λ n. n ≤ 16777216) (sym (length-set css (i / 256) (set d (i % 256) (Some x)))) p.few;
        })

    pub put_map : (d' : List (Option T)) → d' ≡ set d (i % 256) (Some x) → map_from 0 (places_of (set css (i / 256) d')) ≡ insert (map_from 0 cs) i x
    put_map d' is = ap (λ l. map_from 0 (places_of (set css (i / 256) l))) is ∙ ap (map_from 0) (place_set css i p.whole d lt e (Some x)) ∙ map-put cs i x at.0

  module _ (x : T) (has : get_or cs i None ≡ Some x) where
    lt' : i / 256 < length css
    lt' = found css i p.whole x has

    pub held : get_or d (i % 256) None ≡ Some x
    held = sym (place_read css i p.whole d lt' e) ∙ has

    pub take_pool : (d' : List (Option T)) → d' ≡ set d (i % 256) None → (us : List ℕ) → us ≡ vs ++ i ∷ [] → IsPool (set css (i / 256) d') us room
    take_pool d' is us push =
        subst (λ l. IsPool (set css (i / 256) l) us room) (sym is) (subst (λ l. IsPool (set css (i / 256) (set d (i % 256) None)) l room) (sym push) (record {
          whole = place_whole css i p.whole d lt' e None;
          lists = subst (λ l. Lists l (vs ++ i ∷ [])) (sym (place_set css i p.whole d lt' e None)) (Lists-take cs vs i x p.lists has);
          roomy = subst (λ n. n * 256 ≤ room) (sym (length-set css (i / 256) (set d (i % 256) None))) p.roomy;
          few = subst (λ n. n ≤ 16777216) (sym (length-set css (i / 256) (set d (i % 256) None))) p.few;
        }))

    pub take_map : (d' : List (Option T)) → d' ≡ set d (i % 256) None → map_from 0 (places_of (set css (i / 256) d')) ≡ remove (map_from 0 cs) i
    take_map d' is = ap (λ l. map_from 0 (places_of (set css (i / 256) l))) is ∙ ap (map_from 0) (place_set css i p.whole d lt' e None) ∙ map-take cs i (held_within cs i x has)

    pub write_pool : (w : T) → IsPool (set css (i / 256) (set d (i % 256) (Some w))) vs room
    write_pool w = record {
      whole = place_whole css i p.whole d lt' e (Some w);
      lists = subst (λ l. Lists l vs) (sym (place_set css i p.whole d lt' e (Some w))) (Lists-write cs vs i x w p.lists has);
      roomy = subst (λ n. n * 256 ≤ room) (sym (length-set css (i / 256) (set d (i % 256) (Some w)))) p.roomy;
      few = subst (λ n. n ≤ 16777216) (sym (length-set css (i / 256) (set d (i % 256) (Some w)))) p.few;
    }

    pub write_map : (w : T) → map_from 0 (places_of (set css (i / 256) (set d (i % 256) (Some w)))) ≡ insert (map_from 0 cs) i w
    write_map w = ap (map_from 0) (place_set css i p.whole d lt' e (Some w)) ∙ map-put cs i w (held_within cs i x has)

-- a chunk of empty places is added
pub grow_pool : {T : Type 0} (css : List (List (Option T))) (vs : List ℕ) (room n : ℕ) → IsPool css vs room → n ≡ length css * 256 → (length css + 1) * 256 ≤ room → length css + 1 ≤ 16777216
    → IsPool (css ++ replicate 256 None ∷ []) (vs ++ numbers n 256) room
grow_pool {T} css vs room n p e roomy few =
    let long : length (css ++ replicate 256 None ∷ []) ≡ length css + 1 = length-append css (replicate 256 None ∷ []) in record {
      whole = AreWhole-push css (replicate 256 None) p.whole (length-replicate {A = Option T} 256 None);
      lists = subst (λ l. Lists l (vs ++ numbers n 256)) (sym (places_of-push css (replicate 256 None))) (Lists-grown (places_of css) vs 256 n (e ∙ sym (length-places_of css p.whole)) p.lists);
      roomy = subst (λ k. k * 256 ≤ room) (sym long) roomy;
      few = subst (λ k. k ≤ 16777216) (sym long) few;
    }

-- the same, as the steps of the code give it
pub grown_pool : {T : Type 0} (css : List (List (Option T))) (vs : List ℕ) (room n more : ℕ) → IsPool css vs room → n ≡ length css → (n + 1) * 256 ≤ more → n + 1 ≤ 16777216 → (ds : List (List (Option T))) (us : List ℕ)
    → ds ≡ css ++ replicate 256 None ∷ [] → us ≡ vs ++ numbers (n * 256) 256 → IsPool ds us more
grown_pool {T} css vs room n more p e roomy few ds us de ue =
    let q : IsPool css vs more = record { whole = p.whole; lists = p.lists; roomy = omega (arith, roomy, e); few = p.few } in
    subst (λ l. IsPool l us more) (sym de) (subst (λ l. IsPool (css ++ replicate 256 None ∷ []) l more) (sym ue) (grow_pool css vs more (n * 256) q (ap (λ k. k * 256) e) (omega (arith, roomy, e)) (omega (arith, few, e))))

pub grow_map : {T : Type 0} (css : List (List (Option T))) → map_from 0 (places_of (css ++ replicate 256 None ∷ [])) ≡ map_from 0 (places_of css)
grow_map css = ap (map_from 0) (places_of-push css (replicate 256 None)) ∙ map-grow (places_of css) 256

-- every place holds a value or is listed
pub counts : {T : Type 0} (css : List (List (Option T))) (vs : List ℕ) (room : ℕ) → IsPool css vs room → len (map_from 0 (places_of css)) + length vs ≡ length css * 256
counts css vs room p = omega (arith, len-map_from 0 (places_of css), p.lists.total, length-places_of css p.whole)

pub roomier : {T : Type 0} (css : List (List (Option T))) (vs : List ℕ) (room more : ℕ) → room ≤ more → IsPool css vs room → IsPool css vs more
roomier css vs room more le p = record { whole = p.whole; lists = p.lists; roomy = omega (arith, p.roomy); few = p.few }

-- what a caller says of a slot, at the pool's fields
pub slot_has : {T : Type 0} (css : List (List (Option T))) (n i : ℕ) (p : Contents T) (j : ℕ) → contents (map_from 0 (places_of css)) n ≡ p → i ≡ j → IsSome (get p.values j) → (x : T) × (get_or (places_of css) i None ≡ Some x)
slot_has css n i p j view e h = slot_found css i (subst (λ k. IsSome (get (map_from 0 (places_of css)) k)) (sym e) (subst (λ m. IsSome (get m j)) (sym (ap (λ c. c.values) view)) h))

pub slot_value : {T : Type 0} (css : List (List (Option T))) (n i : ℕ) (p : Contents T) (j : ℕ) (x : T) → contents (map_from 0 (places_of css)) n ≡ p → i ≡ j → get_or (places_of css) i None ≡ Some x → get p.values j ≡ Some x
slot_value css n i p j x view e h = sym (ap (λ c. get c.values j) view) ∙ ap (get (map_from 0 (places_of css))) (sym e) ∙ get-map (places_of css) i ∙ h

pub take_room : {T : Type 0} (css : List (List (Option T))) (vs : List ℕ) (room i : ℕ) (x : T) → IsPool css vs room → get_or (places_of css) i None ≡ Some x → length vs < room
take_room css vs room i x p e = omega (arith, p.roomy, p.lists.total, length-places_of css p.whole, used-take (places_of css) i x e)
