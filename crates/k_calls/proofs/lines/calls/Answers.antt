use Rattle.std.proofs.Common.{sym, subst, List, []}
use Rattle.std.specs.List.{fold}
use Rattle.std.specs.List.Sorted.{IsPermutation}
use Rattle.k_calls.specs.declared.lines.CallLine.{CallLine}
use Rattle.k_calls.specs.Counting.{counted}
use Rattle.k_calls.proofs.Told.{calls_if, calls_told}
use Rattle.k_calls.proofs.lines.calls.Goals as goal

pub returns : goal.returns
returns c =
    let sorted = c.sort.new.lines.items in
    let moved : IsPermutation (fold counted [] c.args.marks.now) sorted = subst (λ (xs : List CallLine). IsPermutation xs sorted) c.in_ok-parts.ensures c.sort.ensures.same in
    calls_if (λ v. v.items) c.args.marks.now c.joined.result sorted (rw (sym c.as_slice.ensures.value) c.joined.ensures) (calls_told c.args.marks.now sorted moved c.sort.ensures.ordered)
