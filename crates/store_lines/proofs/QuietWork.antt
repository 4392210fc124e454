-- A call that changes nothing is whole.
use Rattle.std.proofs.Common.{◌≡◌, inl, ℕ, ◌≤◌, [], refl, sym, ap, ◌∙◌, arith}
use Rattle.std.specs.Prelude.{Some}
use Rattle.std.proofs.lemmas.Option.{same_Some}
use Rattle.disk_model.specs.Disk.{Image}
use Rattle.base_types.specs.declared.program.Rules.{Rules}
use Rattle.machine.specs.Calls.{IsOpen, IsWhole}
use Rattle.machine.specs.Tips.{stored_in}
use Rattle.store_state.specs.State.{StoreState, state_of}
use Rattle.store_writes.specs.Written.{events_call}

-- a crash since any moment before it leaves what it might have left before, and the contents stay
module _ (limit : ℕ) (given : Rules) (past left : ℕ → Image → Type 0) (entered ended : ℕ) (contents : Image) (store : StoreState)
    (later : entered ≤ ended) (since : (t : ℕ) (c : Image) → t ≤ entered → left t c → past t c) (earlier : (t u : ℕ) (c : Image) → t ≤ u → u ≤ ended → left u c → left t c)
    (reads : left ended contents) (is_open : IsOpen limit given (past entered) contents store) where
  was : (t : ℕ) (c : Image) → entered ≤ t → t ≤ ended → left t c → past entered c
  was t c low high now = since entered c (omega arith) (earlier entered t c low high now)

  stands : (c : Image) → past entered c → (found : StoreState) → state_of limit given c ≡ Some found → found ≡ store
  stands c before found is = same_Some found store (sym is ∙ is_open.all c before)

  pub quiet_whole : IsWhole limit given past left (events_call entered ended contents contents [] []) store store
  quiet_whole = record {
    meets = record {
      disk = record { later = later; reads = is_open.reads; reads_after = reads; earlier = earlier };
      stands_for = is_open.all contents is_open.reads;
      settled = λ settled c now. settled c (since entered c (omega arith) now);
      before = λ settled t c early now. inl (since t c (omega (arith, early)) now);
      leaves = λ settled t c found low high now is. record {
        first = [];
        rest = [];
        parts = refl;
        enough = omega arith;
        made = omega arith;
        stored = ap stored_in (stands c (was t c low high now) found is);
      };
      in_order = tt;
    };
    well = record { stored = λ c found now is. ap stored_in (stands c (was ended c later (omega arith) now) found is); flushed = refl };
    ends = record { reads = reads; all = λ c now. is_open.all c (was ended c later (omega arith) now) };
  }
