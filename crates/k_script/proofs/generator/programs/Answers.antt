use Rattle.std.proofs.Common.{◌≡◌, ℕ, ◌+◌, ◌*◌, ap, ◌∙◌, arith}
use Rattle.k_script.specs.declared.generator.Client.{Client}
use Rattle.k_script.specs.Script.{Program}
use Rattle.k_script.specs.Big.{state_after, server, client, client_name, client_operations}
use Rattle.k_script.proofs.Draws.{one_more}
use Rattle.k_script.proofs.generator.programs.Goals as goal

abbrev listing : ℕ → Client → Program
listing index draws = record { name = client_name index; operations = client_operations draws }

pub loop-index-preserved : goal.loop-index-preserved
loop-index-preserved c = record {
  programs = λ number h.
      let is : c.in_ok-client_listing.field-0 ≡ client number c.loop-index.index = c.in_ok-client_listing.ensures ∙ ap (listing c.loop-index.index) (c.client-client.ensures.client number (4 * c.loop-index.index) (c.loop-index.invariant.state number h)) in
      one_more (client number) server c.push-in-loop-index.new.self.items c.loop-index.programs.items c.in_ok-client_listing.field-0 c.loop-index.index c.in_ok-push-2.ensures.items (c.loop-index.invariant.programs number h) is;
  state = λ number h.
      let e : 4 * c.loop-index.index + 4 ≡ 4 * (c.loop-index.index + 1) = omega arith in
      c.client-client.ensures.state number (4 * c.loop-index.index) (c.loop-index.invariant.state number h) ∙ ap (state_after number) e;
}
