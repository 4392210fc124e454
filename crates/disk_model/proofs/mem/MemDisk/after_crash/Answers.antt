use Rattle.std.proofs.Common.{ap, sym, ◌∙◌}
use Rattle.disk_model.specs.Image.{bytes_in}
use Rattle.disk_model.specs.MemDisk.{files_of, start_of, calls_of, clock_of}
use Rattle.disk_model.proofs.Lookups.{if_ok}
use Rattle.disk_model.proofs.Picks.{picks_left, rest_left}
use Rattle.disk_model.proofs.mem.MemDisk.after_crash.Goals as goal

pub returns-clause-allowed : goal.returns-clause-allowed
returns-clause-allowed c =
    if_ok c.at_rest.result _ _
    (λ d fresh.
    picks_left c.args.self.now.start c.args.self.now.history.calls.items c.args.self.now.history.clock c.args.moment c.requires c.args.pick (files_of d)
    (λ f. ap (λ m. bytes_in m f) fresh.files ∙ c.in_ok-image_at.ensures f))
    c.at_rest.ensures.fresh

pub returns-clause-durable : goal.returns-clause-durable
returns-clause-durable c =
    if_ok c.at_rest.result _ _
    (λ d fresh. rest_left (start_of d) (files_of d) (calls_of d) (clock_of d) (fresh.start ∙ sym fresh.files) fresh.calls)
    c.at_rest.ensures.fresh
