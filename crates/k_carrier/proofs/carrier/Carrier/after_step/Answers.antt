use Rattle.std.proofs.Common.{refl}
use Rattle.k_carrier.proofs.carrier.Carrier.after_step.Goals as goal

pub returns-clause-carrier : goal.returns-clause-carrier
returns-clause-carrier c =
    let s = c.args.script.now in
    rw (c.goal_after-self.ensures, c.help_after-self.ensures, c.resched_after-self.ensures s, c.told_in-told.ensures, c.owner-owner.ensures s, c.lock_awaited-lock.ensures, c.resume-ran.ensures.ran, c.resume-ran.ensures.seen) refl
