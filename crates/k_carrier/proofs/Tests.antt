-- Tests, as the code makes them one after the other.
use Rattle.std.proofs.Common.{◌≡◌, Bool, true, false, cond, not, ◌&&◌, ◌||◌, refl, Option, Some, None}
use Rattle.std.specs.Prelude.{is_none, is_some}

-- the first holds, and the answer is the second
pub both : (a b r : Bool) → a ≡ true → r ≡ b → r ≡ (a && b)
both true b r e f = f
both false b r e f = absurd cc

-- the first doesn't
pub not_first : (a b r : Bool) → r ≡ a → r ≡ false → r ≡ (a && b)
not_first true b r e f = absurd cc
not_first false b r e f = f

-- one of two
pub first : (a b r : Bool) → r ≡ a → r ≡ true → r ≡ (a || b)
first true b r e f = f
first false b r e f = absurd cc

pub second : (a b r s : Bool) → s ≡ a → s ≡ false → r ≡ b → r ≡ (a || b)
second true b r s e f g = absurd cc
second false b r s e f g = g

-- a choice whose test is known
pub chosen : {A : Type 0} (b : Bool) (x y : A) → b ≡ true → x ≡ cond b x y
chosen true x y e = refl
chosen false x y e = absurd cc

pub other : {A : Type 0} (b : Bool) (x y : A) → b ≡ false → y ≡ cond b x y
other true x y e = absurd cc
other false x y e = refl

-- there is none, as it is told
pub told_none : {A : Type 0} (o : Option A) (r : Bool) → is_some o ≡ not r → r ≡ is_none o
told_none None true e = refl
told_none None false e = absurd cc
told_none (Some x) true e = absurd cc
told_none (Some x) false e = refl
