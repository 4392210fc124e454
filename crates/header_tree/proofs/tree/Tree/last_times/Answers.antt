use Rattle.std.proofs.Common.{◌≡◌, ℕ, suc, ◌+◌, ◌-◌, ◌<◌, ◌++◌, List, [], ◌∷◌, length, map, take, set, ap, sym, ◌∙◌, append_assoc, append-nil, arith}
use Rattle.std.proofs.lemmas.List.{take_more_set, length-set}
use Rattle.base_types.specs.declared.hash.Hash32.{Hash32}
use Rattle.chain_model.specs.Tree.{chain, time}
use Rattle.header_tree.specs.State.{hash_at}
use Rattle.header_tree.proofs.tree.Tree.last_times.Goals as goal

one_more : (f : Hash32 → ℕ) (times : List ℕ) (count t : ℕ) (hash : Hash32) (all rest : List Hash32) (whole : List ℕ) → count < 11 → count < length times → t ≡ f hash → all ≡ hash ∷ rest → take count times ++ map f (take (11 - count) all) ≡ whole → take (count + 1) (set times count t) ++ map f (take (11 - (count + 1)) rest) ≡ whole
one_more f times count t hash all rest whole few less is chained so_far =
    let step : suc (11 - (count + 1)) ≡ 11 - count = omega arith in
    ap (λ (l : List ℕ). l ++ map f (take (11 - (count + 1)) rest)) (take_more_set times count t less)
    ∙ append_assoc (take count times) (t ∷ []) (map f (take (11 - (count + 1)) rest))
    ∙ ap (λ (n : ℕ). take count times ++ n ∷ map f (take (11 - (count + 1)) rest)) is
    ∙ ap (λ (n : ℕ). take count times ++ map f (take n (hash ∷ rest))) step
    ∙ ap (λ (l : List Hash32). take count times ++ map f (take (11 - count) l)) (sym chained)
    ∙ so_far

all_read : (f : Hash32 → ℕ) (times : List ℕ) (count : ℕ) (all : List Hash32) (whole : List ℕ) → count ≡ 11 → take count times ++ map f (take (11 - count) all) ≡ whole → take 11 times ≡ whole
all_read f times count all whole is so_far =
    sym (append-nil (take 11 times)) ∙ ap (λ (n : ℕ). take n times ++ map f (take (11 - n) all)) (sym is) ∙ so_far

pub loop-count-preserved : goal.loop-count-preserved
loop-count-preserved c =
    let before = c.in-Some.ensures in
    record {
      sized = length-set c.loop-count.times _ _ ∙ c.loop-count.invariant.sized;
      there = before.0;
      so_far = one_more (time c.args.self.now.tree.headers) c.loop-count.times c.loop-count.count c.time_at.result (hash_at c.args.self.now c.loop-count.at) (chain c.args.self.now.tree.headers (hash_at c.args.self.now c.loop-count.at)) (chain c.args.self.now.tree.headers (hash_at c.args.self.now c.in-Some.parent)) _ (omega arith) (omega (arith, c.loop-count.invariant.sized)) c.time_at.ensures before.1 c.loop-count.invariant.so_far;
    }

pub returns-clause-times : goal.returns-clause-times
returns-clause-times c =
    all_read (time c.args.self.now.tree.headers) c.loop-count.times c.loop-count.count (chain c.args.self.now.tree.headers (hash_at c.args.self.now c.loop-count.at)) _ (omega arith) c.loop-count.invariant.so_far
