-- How many repeats are open behind one more operation.
use Rattle.std.proofs.Common.{◌≡◌, ℕ, ◌+◌, ◌-◌, ◌<◌, true, false, eqb, leb, List, [], ◌∷◌, ◌++◌, refl, sym, ap, ◌∙◌, arith, Option, Some, None, is_some, Result, Ok, option_and_then}
use Rattle.std.proofs.lemmas.Bool.{leb-false, eqb-false, lt-ltb}
use Rattle.k_script.specs.declared.operation.Operation.{Operation}
use Rattle.k_script.specs.declared.operation.Operation.TheVariants as operation
use Rattle.k_script.specs.Script.{Program}
use Rattle.k_script.specs.Limits.{depth_after, depth_behind}
use Rattle.k_lines.specs.declared.line.OperationLine.{OperationLine}
use Rattle.k_lines.specs.declared.line.OperationLine.TheVariants as op
use Rattle.k_lines.specs.Numbers.{in_range}
use Rattle.k_reader.specs.declared.fault.Why.{Why}
use Rattle.k_reader.specs.declared.fault.Why.TheVariants as why
use Rattle.k_reader.specs.Draft.{program_at}
use Rattle.k_reader.specs.Reading.{given, value_in, thread_in, message_in, misnests, operation_in}
use Rattle.k_reader.proofs.Chains.{ok_given, ok_on_ok}

depth-push : (d : ℕ) (ops : List Operation) (o : Operation) → depth_behind d (ops ++ o ∷ []) ≡ option_and_then (λ e. depth_after e o) (depth_behind d ops)
depth-push d [] o = go (depth_after d o)
  where
    go : (r : Option ℕ) → option_and_then (λ e. Some e) r ≡ r
    go None = refl
    go (Some e) = refl
depth-push d (p ∷ ops) o = go (depth_after d p) (λ e. depth-push e ops o)
  where
    go : (r : Option ℕ) → ((e : ℕ) → depth_behind e (ops ++ o ∷ []) ≡ option_and_then (λ f. depth_after f o) (depth_behind e ops)) → option_and_then (λ e. depth_behind e (ops ++ o ∷ [])) r ≡ option_and_then (λ f. depth_after f o) (option_and_then (λ e. depth_behind e ops) r)
    go None h = refl
    go (Some e) h = h e

-- one more operation behind these
pub pushed : (d e : ℕ) (ops : List Operation) (o : Operation) → depth_behind 0 ops ≡ Some d → depth_after d o ≡ Some e → depth_behind 0 (ops ++ o ∷ []) ≡ Some e
pushed d e ops o h i = depth-push 0 ops o ∙ ap (option_and_then (λ f. depth_after f o)) h ∙ i

plain : (d : ℕ) (o r : Operation) → depth_after d o ≡ Some d → ◌≡◌ {A = Result Operation Why} (Ok o) (Ok r) → is_some (depth_after d r) ≡ true
plain d o r p h =
    let same : o ≡ r = cc in
    ap is_some (sym (ap (depth_after d) same) ∙ p)

opens : (d c : ℕ) (r : Operation) → leb 4 d ≡ false → ◌≡◌ {A = Result Operation Why} (Ok (operation.Repeat c)) (Ok r) → is_some (depth_after d r) ≡ true
opens d c r l h =
    let same : operation.Repeat c ≡ r = cc in
    let deeper : depth_after d (operation.Repeat c) ≡ Some (d + 1) = rw (lt-ltb d 4 (leb-false 4 d l)) refl in
    ap is_some (sym (ap (depth_after d) same) ∙ deeper)

closes : (d : ℕ) (r : Operation) → eqb d 0 ≡ false → ◌≡◌ {A = Result Operation Why} (Ok operation.Again) (Ok r) → is_some (depth_after d r) ≡ true
closes d r l h =
    let same : operation.Again ≡ r = cc in
    let some : 0 < d = omega (arith, eqb-false d 0 l) in
    let less : depth_after d operation.Again ≡ Some (d - 1) = rw (lt-ltb 0 d some) refl in
    ap is_some (sym (ap (depth_after d) same) ∙ less)

-- An operation whose line stands where it may leaves a count.
pub nests : (table d : ℕ) (ps : List Program) (o : OperationLine) (r : Operation) → misnests (Some d) o ≡ false → operation_in table ps o ≡ Ok r → is_some (depth_after d r) ≡ true
unfolding operation_in
nests table d ps (op.Send to low high zero) r h i = let m = ok_on_ok (message_in table to low high) (λ m. Ok (operation.Send m.0 m.1 m.2 zero)) r i in plain d (operation.Send m.0.0 m.0.1 m.0.2 zero) r refl m.2
nests table d ps (op.Receive from zero) r h i = let m = ok_on_ok (thread_in table from) (λ t. Ok (operation.Receive (Some t) zero)) r i in plain d (operation.Receive (Some m.0) zero) r refl m.2
nests table d ps (op.Wait zero) r h i = plain d (operation.Receive None zero) r refl i
nests table d ps (op.Call to low high zero) r h i = let m = ok_on_ok (message_in table to low high) (λ m. Ok (operation.Call m.0 m.1 m.2 zero)) r i in plain d (operation.Call m.0.0 m.0.1 m.0.2 zero) r refl m.2
nests table d ps (op.Reply low high zero) r h i =
    let a = ok_given (value_in low) why.Number (λ l. given (value_in high) why.Number (λ h. Ok (operation.Reply l h zero))) r i in
    let b = ok_given (value_in high) why.Number (λ h. Ok (operation.Reply a.0 h zero)) r a.2 in
    plain d (operation.Reply a.0 b.0 zero) r refl b.2
nests table d ps (op.Create name priority) r h i =
    let a = ok_given (in_range 0 63 priority) why.Number (λ p. given (program_at name ps) why.Unknown (λ k. Ok (operation.Create k p))) r i in
    let b = ok_given (program_at name ps) why.Unknown (λ k. Ok (operation.Create k a.0)) r a.2 in
    plain d (operation.Create b.0 a.0) r refl b.2
nests table d ps (op.Destroy victim) r h i = let m = ok_on_ok (thread_in table victim) (λ t. Ok (operation.Destroy t)) r i in plain d (operation.Destroy m.0) r refl m.2
nests table d ps (op.Work count) r h i = let m = ok_given (in_range 1 4294967295 count) why.Number (λ c. Ok (operation.Work c)) r i in plain d (operation.Work m.0) r refl m.2
nests table d ps (op.Repeat count) r h i = let m = ok_given (in_range 1 65535 count) why.Number (λ c. Ok (operation.Repeat c)) r i in opens d m.0 r h m.2
nests table d ps op.Again r h i = closes d r h i
