use Rattle.fiasco_run.proofs.One.{one_exit}
use Rattle.fiasco_run.proofs.laws.bytes_call_for_one_status.Goals as goal

pub returns : goal.returns
returns c = one_exit c.a_text_is_read.ensures.one c.a_history_has_one_verdict.ensures
