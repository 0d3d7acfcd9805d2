use Rattle.std.proofs.Common.{drop, map, refl, string_bytes, ◌≢◌}
use Rattle.std.specs.IoError.{error_kind}
use Rattle.std.specs.declared.io.ErrorKind.TheVariants.{OutOfMemory}
use Rattle.std.specs.Vec.Iter.{into_iter_items}
use Rattle.fiasco_run.specs.declared.exit.Exit.TheVariants as exit
use Rattle.fiasco_run.proofs.Flushed.{kept_back, sent, told_sent, untold_sent}
use Rattle.fiasco_run.proofs.arguments.serve_flushed.Goals as goal

pub returns-in-Ok-clause-told : goal.returns-in-Ok-clause-told
returns-in-Ok-clause-told g c = told_sent c.args.arguments (λ all. map string_bytes (drop 1 (into_iter_items all))) _ _ _ _ _ c.serve_arguments-exit.ensures.told (sent refl refl c.flush.ensures.bytes c.in-Ok.ensures.cause.calm)

pub returns-in-Ok-clause-form : goal.returns-in-Ok-clause-form
returns-in-Ok-clause-form g c = untold_sent c.args.arguments (λ error. error_kind error ≢ OutOfMemory) exit.Usage _ _ _ _ _ c.serve_arguments-exit.ensures.form (sent refl refl c.flush.ensures.bytes c.in-Ok.ensures.cause.calm)

pub returns-in-Err-clause-told : goal.returns-in-Err-clause-told
returns-in-Err-clause-told g c = told_sent c.args.arguments (λ all. map string_bytes (drop 1 (into_iter_items all))) _ _ _ _ _ c.serve_arguments-exit.ensures.told (kept_back refl refl c.flush.ensures.bytes c.in-Err.ensures.cause.later c.in-Err.ensures.cause.failed)

pub returns-in-Err-clause-form : goal.returns-in-Err-clause-form
returns-in-Err-clause-form g c = untold_sent c.args.arguments (λ error. error_kind error ≢ OutOfMemory) exit.Usage _ _ _ _ _ c.serve_arguments-exit.ensures.form (kept_back refl refl c.flush.ensures.bytes c.in-Err.ensures.cause.later c.in-Err.ensures.cause.failed)
