-- A program that is found is one of those before.
use Rattle.std.proofs.Common.{◌≡◌, ℕ, ◌<◌, List, length, Some}
use Rattle.std.specs.Str.{bytes_eq}
use Rattle.std.proofs.lemmas.List.Quantifiers.{position-Some}
use Rattle.k_script.specs.Script.{Program, nothing}
use Rattle.k_reader.specs.Draft.{program_at}

pub found_at : (name : List ℕ) (ps : List Program) (at : ℕ) → program_at name ps ≡ Some at → at < length ps
found_at name ps at h = (position-Some (λ p. bytes_eq p.name name) ps at nothing h).0
