use Rattle.k_tokens.proofs.Sections.{thread_good}
use Rattle.k_tokens.proofs.laws.a_thread_step_keeps_the_good_world.Goals as goal

pub returns : goal.returns
returns c = λ w n me step m. thread_good w n me m.holder m.parts m.run step m.grants
