-- What a chain of reasons that ends well tells.
use Rattle.std.proofs.Common.{◌≡◌, Bool, true, false, Option, Some, None, Result, Ok, Err, refl}
use Rattle.k_reader.specs.declared.fault.Why.{Why}
use Rattle.k_reader.specs.Reading.{bad_if, given, on_ok}

pub ok_bad_if : {A : Type 0} (b : Bool) (w : Why) (r : Result A Why) (y : A) → bad_if b w r ≡ Ok y → (b ≡ false) × (r ≡ Ok y)
ok_bad_if true w r y h = absurd cc
ok_bad_if false w r y h = (refl, h)

pub ok_given : {A B : Type 0} (o : Option A) (w : Why) (f : A → Result B Why) (y : B) → given o w f ≡ Ok y → (x : A) × (o ≡ Some x) × (f x ≡ Ok y)
ok_given None w f y h = absurd cc
ok_given (Some x) w f y h = (x, refl, h)

pub ok_on_ok : {A B : Type 0} (r : Result A Why) (f : A → Result B Why) (y : B) → on_ok r f ≡ Ok y → (x : A) × (r ≡ Ok x) × (f x ≡ Ok y)
ok_on_ok (Err w) f y h = absurd cc
ok_on_ok (Ok x) f y h = (x, refl, h)
