use Rattle.std.proofs.Common.{subst, sym, ap, Err}
use Rattle.fiasco_run.specs.Served.{TakesStatus, check_reads}
use Rattle.fiasco_run.proofs.Serves.{all_taken, refused_takes_for, input_takes}
use Rattle.fiasco_run.proofs.check.judge_source.Goals as goal

pub returns-in-Ok-clause-takes : goal.returns-in-Ok-clause-takes
returns-in-Ok-clause-takes g c = refused_takes_for check_reads _ _ _ _ c.judge_bytes.ensures.refused (all_taken _ _ _ c.in-Ok.ensures.all) c.in-Ok.ensures.part

pub returns-in-Err-clause-takes : goal.returns-in-Err-clause-takes
returns-in-Err-clause-takes g c = subst (λ e. TakesStatus check_reads e (g.S.Source.left c.args.source.now) (g.S.Source.left c.read_divided.new.source)) (sym c.exit_of.ensures) (input_takes check_reads c.in-Err.fault (g.S.Source.left c.args.source.now) (g.S.Source.left c.read_divided.new.source) (λ same. c.in-Err.ensures.too_large (ap Err same)) c.in-Err.ensures.part)
