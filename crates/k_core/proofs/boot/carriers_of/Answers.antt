use Rattle.std.proofs.Common.{◌≡◌, [], ◌∷◌, ◌++◌, ap, ◌∙◌}
use Rattle.std.proofs.lemmas.List.Elements.{All-push, All-same}
use Rattle.k_carrier.specs.declared.carrier.Carrier.{Carrier}
use Rattle.k_carrier.specs.Seen.{IsPlaced, carrier_in, new_carrier}
use Rattle.k_logs.specs.Seen.{carriers_in}
use Rattle.k_core.proofs.Boots.{one_more}
use Rattle.k_core.proofs.boot.carriers_of.Goals as goal

pub loop-number-preserved : goal.loop-number-preserved
loop-number-preserved c =
    let script = c.args.script.now in
    let x : Carrier = c.of.result in
    let more : c.push.new.self.items ≡ c.loop-number.list.items ++ x ∷ [] = c.in_ok-push.ensures.items in (
      ap (carriers_in script) more ∙ one_more (carrier_in script) (λ i. new_carrier i c.table-table.result)
          c.loop-number.number c.loop-number.list.items x c.loop-number.invariant.0
          (c.of.ensures.carrier script),
      All-same (IsPlaced script) c.push.new.self.items (c.loop-number.list.items ++ x ∷ []) more
          (All-push (IsPlaced script) c.loop-number.list.items x c.loop-number.invariant.1
          (c.of.ensures.placed script)),
    )
