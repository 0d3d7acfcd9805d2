use Rattle.k_ending.specs.Ending.{IsAtEnd, IsFreshIn}
use Rattle.k_lowered.specs.Lowered.{parts_in}
use Rattle.k_scheduled.proofs.Scheduled.{fresh_after, laws_of}
use Rattle.k_scheduled.proofs.laws.the_kernel_keeps_the_schedule.Goals as goal

pub returns : goal.returns
returns c = λ script limits room. let outside = c.what_comes_from_outside_keeps_all.ensures in
    let fresh = c.what_comes_from_outside_leaves_who_is_fresh.ensures in
    laws_of script (parts_in script) (IsFreshIn script) (IsAtEnd script)
    (record {
      step = λ w n low h. c.every_step_keeps_the_kernel.ensures script w n limits room low h;
      start = λ w n number low h due. outside.start script w n number limits h low due;
      slice = λ w n low h. outside.slice script w n limits h low;
      park = λ w n low h. outside.park script w n limits h low;
    })
    (record {
      falls = λ w n low h alone e. c.each_step_lowers_the_work.ensures script w n limits room h low alone e;
      fresh = λ w n low h e. c.who_is_settled_is_fresh.ensures script w n h low e;
      fresh_event = fresh_after script (IsFreshIn script) (fresh.start script) (fresh.slice script);
      fresh_step = λ w n low h alone rest f. c.a_lone_step_leaves_it_fresh.ensures script w n limits room h low rest f;
      idle = λ w n low h rest f e. c.who_ends_last_is_told_idle.ensures script w n h low f e;
      finished = λ w n low h none told all. c.idle_is_the_end.ensures script w n h low told all none;
    })
