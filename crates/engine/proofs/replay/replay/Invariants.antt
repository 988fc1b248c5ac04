use Rattle.std.proofs.Common.{◌≤◌, length}
use Rattle.engine.specs.Fits.{limits_of}
use Rattle.engine.proofs.Replays.{IsReplayedUpTo}
use Rattle.engine.proofs.replay.replay.Given as goal

abbrev pub invariant-loop-request : goal.invariant-loop-request
invariant-loop-request g l =
    (l.start ≤ length l.buffers)
    × IsReplayedUpTo g.S.VersionStore.meaning g.V.Validator.meaning (limits_of l.initial.engine.table.last (g.S.VersionStore.meaning l.initial.engine.store) (g.V.Validator.meaning l.initial.engine.validator)) l.request-index l.start l.initial.requests l.requests l.initial.buffers l.buffers l.engine
