use Rattle.std.proofs.Common.{ap, ◌∙◌, subst, ◌==◌, cond, [], ℕ, List, get_or}
use Rattle.std.specs.List.{list_any}
use Rattle.std.specs.Ordering.{nat_cmp}
use Rattle.std.specs.FinMap.{get-empty}
use Rattle.std.specs.Prelude.{unwrap_or}
use Rattle.std.proofs.lemmas.List.{take_more, take_all}
use Rattle.disk_model.specs.Image.{bytes_in}
use Rattle.disk_model.specs.Crash.{at_rest, image_of}
use Rattle.disk_model.specs.Replay.{file_after}
use Rattle.disk_model.specs.Replayed.{IsShown}
use Rattle.disk_model.specs.MemDisk.{state_of}
use Rattle.disk_model.specs.declared.call.Call.{Call}
use Rattle.disk_model.proofs.Picks.{one_more_file, all_files}
use Rattle.disk_model.proofs.mem.MemDisk.image_at.Goals as goal

pub loop-file-init : goal.loop-file-init
loop-file-init c f = ap (λ m. bytes_in m f) c.new-image.ensures ∙ ap (λ o. unwrap_or o []) (get-empty nat_cmp f)

pub loop-file-preserved : goal.loop-file-preserved
loop-file-preserved c f =
    let numbers = c.deref-file-items.result.now in
    let i = c.loop-file.file-index in
    let file = get_or numbers i 0 in
    let start = c.args.self.now.start in
    let shown = subst (λ (calls : List Call). IsShown c.in_ok-state.state (file_after c.args.moment file calls (at_rest (bytes_in start file)))) c.calls.ensures
    (subst (λ (bytes : List ℕ). IsShown c.in_ok-state.state (file_after c.args.moment file c.calls.result.now (at_rest bytes))) c.bytes-start.ensures c.in_ok-state.ensures) in
    one_more_file (λ g. image_of c.args.pick (state_of c.args.self.now c.args.moment g)) numbers i file (take_more numbers i 0 c.loop-file-test.true) c.loop-file.image c.set.new.self _ c.in_ok-set.ensures.ok (c.in_ok-picked.ensures _ shown) f (c.loop-file.invariant f)

pub returns : goal.returns
returns c f =
    let whole = take_all c.loop-file.file-index c.deref-file-items.result.now c.loop-file-test.false ∙ c.deref-file-items.ensures.value in
    c.loop-file.invariant f
    ∙ ap (λ xs. cond (list_any (λ n. f == n) xs) (image_of c.args.pick (state_of c.args.self.now c.args.moment f)) []) whole
    ∙ all_files c.args.self.now.files c.args.pick (state_of c.args.self.now c.args.moment) (c.args.self.now.current.blank c.args.moment) c.in_ok-numbers.numbers.items c.in_ok-numbers.ensures f
