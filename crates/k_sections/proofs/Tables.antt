-- What is proved of the tables of a create and of a destroy, which a law of this crate has from the laws of theirs.
use Rattle.std.proofs.Common.{◌<◌}
use Rattle.k_locks.specs.Tables.{IsReleasedInTime, IsRising}
use Rattle.k_threads.specs.declared.create.CreateCall.{CreateCall}
use Rattle.k_threads.specs.declared.destroy.DestroyCall.{DestroyCall}
use Rattle.k_threads.specs.CreateTable.{create_table}
use Rattle.k_threads.specs.DestroyTable.{destroy_table}

pub record ThreadTables : Type 0 where
  pub create_rises : (c : CreateCall) → IsRising (create_table c)
  pub destroy_rises : (c : DestroyCall) → IsRising (destroy_table c)
  pub create_in_time : (c : CreateCall) → IsReleasedInTime (create_table c)
  pub destroy_in_time : (c : DestroyCall) → c.who.number < c.count → IsReleasedInTime (destroy_table c)

pub thread_tables : ((c : CreateCall) → IsRising (create_table c)) → ((c : DestroyCall) → IsRising (destroy_table c)) →
    ((c : CreateCall) → IsReleasedInTime (create_table c)) →
    ((c : DestroyCall) → c.who.number < c.count → IsReleasedInTime (destroy_table c)) → ThreadTables
thread_tables r s t u = record { create_rises = r; destroy_rises = s; create_in_time = t; destroy_in_time = u }
