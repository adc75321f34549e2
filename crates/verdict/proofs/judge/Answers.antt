-- A plan that reads is in range.
use Rattle.verdict.proofs.Ways.{plan_range}
use Rattle.verdict.proofs.judge.Goals as goal

pub judge_over-requires : goal.judge_over-requires
judge_over-requires c = search plan_range
