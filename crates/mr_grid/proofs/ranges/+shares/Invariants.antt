use Rattle.std.proofs.Common.{◌+◌, ◌*◌}
use Rattle.mr_grid.proofs.ranges.+shares.Given as goal

abbrev pub decreases-read_part : goal.decreases-read_part
decreases-read_part g l = 2 * l.workers

abbrev pub decreases-front : goal.decreases-front
decreases-front g l = 2 * l.few + 1

abbrev pub decreases-back : goal.decreases-back
decreases-back g l = 2 * l.others + 1
