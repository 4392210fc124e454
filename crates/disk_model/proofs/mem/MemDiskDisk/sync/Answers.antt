use Rattle.disk_model.proofs.Entering.{current_synced, sync_done, sync_made}
use Rattle.disk_model.proofs.mem.MemDiskDisk.sync.Goals as goal

pub invariant_of-self : goal.invariant_of-self
invariant_of-self c = record {
  current = current_synced c.args.self.now.start c.args.self.now.files c.args.self.now.history.calls.items c.enter.new.self.calls.items c.args.self.now.history.clock c.enter.new.self.clock c.args.self.now.current c.args.self.now.history.numbered c.enter.ensures.in_time c.enter.ensures.ticks c.args.file _ c.enter.ensures.recorded c.enter.ensures.ok;
}

pub returns-clause-durable : goal.returns-clause-durable
returns-clause-durable c m told = sync_done c.args.self.now.start c.args.self.now.files c.args.self.now.history.calls.items c.enter.new.self.calls.items c.args.self.now.history.clock c.enter.new.self.clock c.args.self.now.current c.args.self.now.history.numbered c.enter.ensures.in_time c.enter.ensures.ticks c.args.file _ c.enter.ensures.recorded c.enter.ensures.ok m told

pub returns-clause-crash : goal.returns-clause-crash
returns-clause-crash c = sync_made c.args.self.now.start c.args.self.now.files c.args.self.now.history.calls.items c.enter.new.self.calls.items c.args.self.now.history.clock c.enter.new.self.clock c.args.self.now.current c.args.self.now.history.numbered c.enter.ensures.in_time c.enter.ensures.ticks c.args.file _ c.enter.ensures.recorded c.enter.ensures.ok c.enter.ensures.at_end
