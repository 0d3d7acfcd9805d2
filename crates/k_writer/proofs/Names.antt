-- The names of programs.
use Rattle.std.proofs.Common.{◌≡◌, ℕ, zero, suc, ◌<◌, ◌≤◌, true, leb, ◌&&◌, List, [], ◌∷◌, length, refl, arith}
use Rattle.std.specs.List.{list_all}
use Rattle.std.proofs.lemmas.Bool.{and_parts, leb-true}
use Rattle.k_script.specs.Script.{Program, Script, program_in}
use Rattle.k_script.specs.Limits.{is_name_byte, is_name, IsScript}

short : (w : List ℕ) → is_name w ≡ true → length w ≤ 16
short w h =
    let both = and_parts (leb 1 (length w) && leb (length w) 16) (list_all is_name_byte w) h in
    leb-true (length w) 16 (and_parts (leb 1 (length w)) (leb (length w) 16) both.0).1

pub name_short : (s : Script) (program : ℕ) → IsScript s → program < length s.programs → length (program_in s.programs program).name ≤ 16
name_short s program h l = short (program_in s.programs program).name (h.programs program l).name

pub no_name : (ps : List Program) (program : ℕ) → length ps ≤ program → (program_in ps program).name ≡ []
no_name [] program h = refl
no_name (p ∷ ps) zero h = absurd (omega (arith, h))
no_name (p ∷ ps) (suc program) h = no_name ps program (omega (arith, h))
