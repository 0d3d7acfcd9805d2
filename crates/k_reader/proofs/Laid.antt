-- The lines of a draft, in the order in which they stand.
use Rattle.std.proofs.Common.{◌≡◌, ℕ, ◌+◌, ◌≤◌, Bool, true, false, List, [], ◌∷◌, ◌++◌, length, map, refl, sym, ap, ◌∙◌, arith, Option, Some, None, append_assoc}
use Rattle.std.specs.List.{flat_map, AllByRecursion}
use Rattle.std.proofs.lemmas.List.{append-nil, map_push, get_or_append_left}
use Rattle.std.proofs.lemmas.Grind.{flat_map-append}
use Rattle.k_script.specs.declared.lines.ThreadLine.{ThreadLine}
use Rattle.k_script.specs.declared.lines.AtLine.{AtLine}
use Rattle.k_script.specs.declared.operation.Operation.{Operation}
use Rattle.k_script.specs.declared.operation.Operation.TheVariants as operation
use Rattle.k_script.specs.Script.{Program, nothing}
use Rattle.k_script.specs.Limits.{IsOperation}
use Rattle.k_lines.specs.declared.line.Line.{Line}
use Rattle.k_lines.specs.declared.line.Line.TheVariants as line
use Rattle.k_lines.specs.declared.line.OperationLine.TheVariants as op
use Rattle.k_lines.specs.Numbers.{exactly}
use Rattle.k_reader.specs.Draft.{Draft}
use Rattle.k_reader.specs.Grammar.{Age, show_lines, aged_line, operation_line, operation_lines, program_lines, thread_line, at_line}
use Rattle.k_reader.proofs.Within.{AllPrograms, with_one}

abbrev pub table_lines : Option ℕ → List Line
table_lines None = []
table_lines (Some size) = line.Table (exactly size) ∷ []

abbrev pub carriers_said : Option ℕ → List Line
carriers_said None = []
carriers_said (Some count) = line.Carriers (exactly count) ∷ []

-- a program that is still open
abbrev pub open_lines : List Program → Option Program → List Line
open_lines ps None = []
open_lines ps (Some p) = line.Program p.name ∷ operation_lines ps p.operations

abbrev pub parts : ℕ → Option ℕ → Option ℕ → Bool → List Age → List Program → Option Program → List ThreadLine → List AtLine → List Line
parts v t c s ages ps o ts events =
    line.Kernel (exactly v) ∷ table_lines t ++ carriers_said c ++ show_lines s ++ map aged_line ages ++ flat_map (program_lines ps) ps ++ open_lines ps o ++ map (thread_line ps) ts ++ map at_line events

abbrev pub draft_lines : Draft → List Age → List Line
draft_lines d ages = parts d.version d.table d.carriers d.show_steps ages d.programs d.open_program d.threads d.at_lines

-- ONE MORE LINE of each kind

glue1 : (x e y : List Line) → x ++ (e ++ y) ≡ x ++ e ++ y
glue1 x e y = sym (append_assoc x e y)

glue2 : (x e y : List Line) → x ++ (e ++ y) ++ [] ≡ x ++ e ++ [] ++ y
glue2 x e y = simp (append_assoc, append-nil)

glue3 : (x e y : List Line) → x ++ (e ++ y) ++ [] ++ [] ≡ x ++ e ++ [] ++ [] ++ y
glue3 x e y = simp (append_assoc, append-nil)

glue4 : (x p o y : List Line) → x ++ (p ++ (o ++ y)) ++ [] ++ [] ++ [] ≡ x ++ p ++ o ++ [] ++ [] ++ y
glue4 x p o y = simp (append_assoc, append-nil)

glue5 : (x e y : List Line) → x ++ (e ++ y) ++ [] ++ [] ++ [] ++ [] ≡ x ++ e ++ [] ++ [] ++ [] ++ [] ++ y
glue5 x e y = simp (append_assoc, append-nil)

glue6 : (x y : List Line) → x ++ y ++ [] ++ [] ++ [] ++ [] ++ [] ≡ x ++ [] ++ [] ++ [] ++ [] ++ [] ++ [] ++ y
glue6 x y = simp (append_assoc, append-nil)

glue7 : (x y : List Line) → x ++ y ++ [] ++ [] ++ [] ++ [] ++ [] ++ [] ≡ x ++ [] ++ [] ++ [] ++ [] ++ [] ++ [] ++ [] ++ y
glue7 x y = simp (append_assoc, append-nil)

pub table-line : (v size : ℕ) (t c : Option ℕ) (s : Bool) (ages : List Age) (ps : List Program) (o : Option Program) (ts : List ThreadLine) (events : List AtLine) → t ≡ None → c ≡ None → s ≡ false → ages ≡ [] → ps ≡ [] → o ≡ None → ts ≡ [] → events ≡ [] → parts v (Some size) c s ages ps o ts events ≡ parts v t c s ages ps o ts events ++ line.Table (exactly size) ∷ []
table-line v size t c s ages ps o ts events a b e f g h i j = rw (a, b, e, f, g, h, i, j) refl

pub carriers-line : (v count : ℕ) (t c : Option ℕ) (s : Bool) (ages : List Age) (ps : List Program) (o : Option Program) (ts : List ThreadLine) (events : List AtLine) → c ≡ None → s ≡ false → ages ≡ [] → ps ≡ [] → o ≡ None → ts ≡ [] → events ≡ [] → parts v t (Some count) s ages ps o ts events ≡ parts v t c s ages ps o ts events ++ line.Carriers (exactly count) ∷ []
carriers-line v count t c s ages ps o ts events b e f g h i j = rw (b, e, f, g, h, i, j) (glue7 (line.Kernel (exactly v) ∷ table_lines t) (line.Carriers (exactly count) ∷ []))

pub show-line : (v : ℕ) (t c : Option ℕ) (s : Bool) (ages : List Age) (ps : List Program) (o : Option Program) (ts : List ThreadLine) (events : List AtLine) → s ≡ false → ages ≡ [] → ps ≡ [] → o ≡ None → ts ≡ [] → events ≡ [] → parts v t c true ages ps o ts events ≡ parts v t c s ages ps o ts events ++ line.ShowSteps ∷ []
show-line v t c s ages ps o ts events e f g h i j = rw (e, f, g, h, i, j) (glue6 (line.Kernel (exactly v) ∷ table_lines t ++ carriers_said c) (line.ShowSteps ∷ []))

pub aged-line : (v : ℕ) (t c : Option ℕ) (s : Bool) (ages : List Age) (a : Age) (ps : List Program) (o : Option Program) (ts : List ThreadLine) (events : List AtLine) → ps ≡ [] → o ≡ None → ts ≡ [] → events ≡ [] → parts v t c s (ages ++ a ∷ []) ps o ts events ≡ parts v t c s ages ps o ts events ++ aged_line a ∷ []
aged-line v t c s ages a ps o ts events g h i j =
    let front : List Line = line.Kernel (exactly v) ∷ table_lines t ++ carriers_said c ++ show_lines s in
    rw (g, h, i, j) (ap (λ (m : List Line). front ++ m ++ [] ++ [] ++ [] ++ []) (map_push aged_line ages a) ∙ glue5 front (map aged_line ages) (aged_line a ∷ []))

pub program-line : (v : ℕ) (t c : Option ℕ) (s : Bool) (ages : List Age) (ps : List Program) (o : Option Program) (name : List ℕ) (ts : List ThreadLine) (events : List AtLine) → o ≡ None → ts ≡ [] → events ≡ [] → parts v t c s ages ps (Some (record { name = name; operations = [] })) ts events ≡ parts v t c s ages ps o ts events ++ line.Program name ∷ []
program-line v t c s ages ps o name ts events h i j =
    let front : List Line = line.Kernel (exactly v) ∷ table_lines t ++ carriers_said c ++ show_lines s ++ map aged_line ages ++ flat_map (program_lines ps) ps in
    rw (h, i, j) (glue3 front [] (line.Program name ∷ []))

pub operation-line : (v : ℕ) (t c : Option ℕ) (s : Bool) (ages : List Age) (ps : List Program) (o : Option Program) (p : Program) (r : Operation) (ts : List ThreadLine) (events : List AtLine) → o ≡ Some p → ts ≡ [] → events ≡ [] → parts v t c s ages ps (Some (with_one p r)) ts events ≡ parts v t c s ages ps o ts events ++ line.Operation (operation_line ps r) ∷ []
operation-line v t c s ages ps o p r ts events h i j =
    let front : List Line = line.Kernel (exactly v) ∷ table_lines t ++ carriers_said c ++ show_lines s ++ map aged_line ages ++ flat_map (program_lines ps) ps in
    rw (h, i, j) (ap (λ (m : List Line). front ++ (line.Program p.name ∷ m) ++ [] ++ []) (map_push (λ q. line.Operation (operation_line ps q)) p.operations r) ∙ glue3 front (line.Program p.name ∷ operation_lines ps p.operations) (line.Operation (operation_line ps r) ∷ []))

-- Programs that come later change no line of those before.
stable_operation : (table before : ℕ) (ps qs : List Program) (r : Operation) → before ≤ length ps → IsOperation table before r → operation_line (ps ++ qs) r ≡ operation_line ps r
stable_operation table before ps qs (operation.Send to low high zero) l h = refl
stable_operation table before ps qs (operation.Receive (Some from) zero) l h = refl
stable_operation table before ps qs (operation.Receive None zero) l h = refl
stable_operation table before ps qs (operation.Call to low high zero) l h = refl
stable_operation table before ps qs (operation.Reply low high zero) l h = refl
stable_operation table before ps qs (operation.Create program priority) l h = ap (λ (p : Program). op.Create p.name (exactly priority)) (get_or_append_left ps qs nothing program (omega (arith, l, h.0)))
stable_operation table before ps qs (operation.Destroy victim) l h = refl
stable_operation table before ps qs (operation.Work count) l h = refl
stable_operation table before ps qs (operation.Repeat count) l h = refl
stable_operation table before ps qs operation.Again l h = refl

pub stable_operations : (table before : ℕ) (ps qs : List Program) (rs : List Operation) → before ≤ length ps → AllByRecursion (IsOperation table before) rs → operation_lines (ps ++ qs) rs ≡ operation_lines ps rs
stable_operations table before ps qs [] l h = refl
stable_operations table before ps qs (r ∷ rs) l h =
    let one = stable_operation table before ps qs r l h.0 in
    let rest = stable_operations table before ps qs rs l h.1 in
    cc

stable_programs : (table before : ℕ) (ps qs xs : List Program) → before + length xs ≤ length ps → AllPrograms table before xs → flat_map (program_lines (ps ++ qs)) xs ≡ flat_map (program_lines ps) xs
stable_programs table before ps qs [] l h = refl
stable_programs table before ps qs (x ∷ xs) l h =
    let one = stable_operations table before ps qs x.operations (omega (arith, l)) h.0.operations in
    let rest = stable_programs table (before + 1) ps qs xs (omega (arith, l)) h.1 in
    cc

-- the lines of the programs and the open one, where that gets its end
closed-lines : (table : ℕ) (ps : List Program) (p : Program) → AllPrograms table 0 ps → AllByRecursion (IsOperation table (length ps)) p.operations → flat_map (program_lines (ps ++ p ∷ [])) (ps ++ p ∷ []) ≡ flat_map (program_lines ps) ps ++ ((line.Program p.name ∷ operation_lines ps p.operations) ++ line.End ∷ [])
closed-lines table ps p h i =
    flat_map-append (program_lines (ps ++ p ∷ [])) ps (p ∷ [])
    ∙ ap (λ (x : List Line). x ++ (program_lines (ps ++ p ∷ []) p ++ [])) (stable_programs table 0 ps (p ∷ []) ps (omega arith) h)
    ∙ ap (λ (x : List Line). flat_map (program_lines ps) ps ++ x) (append-nil (program_lines (ps ++ p ∷ []) p))
    ∙ ap (λ (x : List Line). flat_map (program_lines ps) ps ++ ((line.Program p.name ∷ x) ++ line.End ∷ [])) (stable_operations table (length ps) ps (p ∷ []) p.operations (omega arith) i)

pub end-line : (table v : ℕ) (t c : Option ℕ) (s : Bool) (ages : List Age) (ps : List Program) (o : Option Program) (p : Program) (ts : List ThreadLine) (events : List AtLine) → AllPrograms table 0 ps → AllByRecursion (IsOperation table (length ps)) p.operations → o ≡ Some p → ts ≡ [] → events ≡ [] → parts v t c s ages (ps ++ p ∷ []) None ts events ≡ parts v t c s ages ps o ts events ++ line.End ∷ []
end-line table v t c s ages ps o p ts events a b h i j =
    let front : List Line = line.Kernel (exactly v) ∷ table_lines t ++ carriers_said c ++ show_lines s ++ map aged_line ages in
    rw (h, i, j) (ap (λ (m : List Line). front ++ m ++ [] ++ [] ++ []) (closed-lines table ps p a b) ∙ glue4 front (flat_map (program_lines ps) ps) (line.Program p.name ∷ operation_lines ps p.operations) (line.End ∷ []))

pub thread-line : (v : ℕ) (t c : Option ℕ) (s : Bool) (ages : List Age) (ps : List Program) (o : Option Program) (ts : List ThreadLine) (x : ThreadLine) (events : List AtLine) → events ≡ [] → parts v t c s ages ps o (ts ++ x ∷ []) events ≡ parts v t c s ages ps o ts events ++ thread_line ps x ∷ []
thread-line v t c s ages ps o ts x events j =
    let front : List Line = line.Kernel (exactly v) ∷ table_lines t ++ carriers_said c ++ show_lines s ++ map aged_line ages ++ flat_map (program_lines ps) ps ++ open_lines ps o in
    rw j (ap (λ (m : List Line). front ++ m ++ []) (map_push (thread_line ps) ts x) ∙ glue2 front (map (thread_line ps) ts) (thread_line ps x ∷ []))

pub event-line : (v : ℕ) (t c : Option ℕ) (s : Bool) (ages : List Age) (ps : List Program) (o : Option Program) (ts : List ThreadLine) (events : List AtLine) (x : AtLine) → parts v t c s ages ps o ts (events ++ x ∷ []) ≡ parts v t c s ages ps o ts events ++ at_line x ∷ []
event-line v t c s ages ps o ts events x =
    let front : List Line = line.Kernel (exactly v) ∷ table_lines t ++ carriers_said c ++ show_lines s ++ map aged_line ages ++ flat_map (program_lines ps) ps ++ open_lines ps o ++ map (thread_line ps) ts in
    ap (λ (m : List Line). front ++ m) (map_push at_line events x) ∙ glue1 front (map at_line events) (at_line x ∷ [])
