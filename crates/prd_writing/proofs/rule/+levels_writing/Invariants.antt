use Rattle.std.proofs.Common.{◌+◌, ◌*◌, length}
use Rattle.prd_writing.proofs.rule.+levels_writing.Given as goal

abbrev pub decreases-push_around : goal.decreases-push_around
decreases-push_around l = 2 * length l.more.now + 1

abbrev pub decreases-push_levels : goal.decreases-push_levels
decreases-push_levels l = 2 * length l.levels.now
