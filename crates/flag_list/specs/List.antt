-- What a list of slots is: the links of a pool's values lead from its first slot to its last, and back.
use Rattle.std.specs.Prelude.{◌≡◌, ℕ, List, [], ◌∷◌, Option, Some, None}
use Rattle.std.specs.Ordering.{nat_cmp}
use Rattle.std.specs.FinMap.{FinMap, get}
use Rattle.slot_pool.specs.Slots.{first_or, last_or, IsDistinct}
use Rattle.flag_list.specs.declared.linked.Links.{Links}
use Rattle.flag_list.specs.declared.list.FlagList.{FlagList}

-- the list that begins nowhere; over every pool it lists no slot
abbrev pub no_list : FlagList
no_list = record { first = None; last = None }

-- where the list begins
abbrev pub start_of : FlagList → Option ℕ
start_of l = l.first

module _ {T : Type 0} (links : T → Links) (m : FinMap nat_cmp T) where
  -- a value lies in the slot, and holds these links
  abbrev pub HasLinks : ℕ → Links → Type 0
  HasLinks s l = (x : T) × (get m s ≡ Some x) × (links x ≡ l)

  -- each slot's links name its neighbours; b stands before the first slot, and a after the last
  abbrev pub AreLinked : Option ℕ → List ℕ → Option ℕ → Type 0
  AreLinked b [] a = Unit {0}
  AreLinked b (s ∷ ss) a = HasLinks s (record { before = b; after = first_or a ss }) × AreLinked (Some s) ss a

  -- over a pool with these values, l lists the slots ss
  pub record IsList (l : FlagList) (ss : List ℕ) : Type 0 where
    pub first : l.first ≡ first_or None ss
    pub last : l.last ≡ last_or None ss
    pub linked : AreLinked None ss None
    pub distinct : IsDistinct ss
