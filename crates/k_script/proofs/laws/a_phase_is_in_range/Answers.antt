use Rattle.k_script.proofs.Within.{start_within, next_within, work_in_range}
use Rattle.k_script.proofs.laws.a_phase_is_in_range.Goals as goal

pub returns-clause-start : goal.returns-clause-start
returns-clause-start c = start_within

pub returns-clause-next : goal.returns-clause-next
returns-clause-next c = next_within

pub returns-clause-work : goal.returns-clause-work
returns-clause-work c = work_in_range
