use Rattle.std.proofs.Common.{sym, ap, subst}
use Rattle.k_ids.specs.declared.state_word.StateWord.{StateWord}
use Rattle.k_locks.specs.Threads.{runs}
use Rattle.k_script.specs.Plays.{IsWithin}
use Rattle.k_script.proofs.Within.{start_within}
use Rattle.k_caller.proofs.thread_context.ThreadContext.of.Goals as goal

pub returns-clause-sound : goal.returns-clause-sound
returns-clause-sound c = λ script whole inside. record {
  id = c.requires.id;
  inside = inside.number;
  within = subst (IsWithin script) (sym (c.start.ensures.start script whole)) (start_within script c.args.program c.args.id whole inside);
  doing = (record { whole = c.created.ensures.whole; version = ap (λ (w : StateWord). w.version) c.created.ensures.word }, ap (λ (w : StateWord). runs w.state) c.created.ensures.word);
  tells = tt;
}
