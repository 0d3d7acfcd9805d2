use Rattle.std.proofs.Common.{rules, ◌≡◌, ◌<◌, length, ap, ◌∙◌, arith}
use Rattle.k_logs.specs.Seen.{AreInside, Logged}
use Rattle.k_logs.proofs.Got.{lawful_inside, still_inside, whole_slice}
use Rattle.k_logs.proofs.logs.Logs.went_on.Goals as goal

pub end_got-requires : goal.end_got-requires
end_got-requires c = lawful_inside c.args.self.now.waits c.deref_mut.result.now c.deref_mut-2.result.now c.requires.lawful
    (c.deref_mut.ensures.value ∙ ap (λ (l : Logged). l.waits.standing) c.self.view_is)
    (c.deref_mut-2.ensures.value ∙ ap (λ (l : Logged). l.waits.marks) c.self.view_is)

pub count_in-requires : goal.count_in-requires
count_in-requires c =
    let places : c.deref_mut.result.now ≡ c.args.self.now.waits.standing = c.deref_mut.ensures.value ∙ ap (λ (l : Logged). l.waits.standing) c.self.view_is in
    let inside : AreInside c.deref_mut.result.now c.deref_mut-2.result.now = lawful_inside c.args.self.now.waits c.deref_mut.result.now c.deref_mut-2.result.now c.requires.lawful
    places (c.deref_mut-2.ensures.value ∙ ap (λ (l : Logged). l.waits.marks) c.self.view_is) in
    let index : c.from.result ≡ c.args.c = search rules in
    let within : c.args.c < length c.deref_mut.result.now = omega (arith, c.requires.carrier, ap length places) in
    still_inside c.args.running.owner c.deref_mut.result.now _ c.deref_mut-2.result.now c.deref_mut-then-is_counted.result.now c.args.c c.index.result.now inside within
    (whole_slice c.end_got.new.standing c.self.inside.standing.items c.self.inside.standing.len (c.end_got.auto.standing ∙ c.deref_mut.ensures.len) ∙ c.end_got.ensures.standing)
    (c.deref_mut-then-is_counted.ensures.value ∙ (whole_slice c.end_got.new.marks c.self.inside.marks.items c.self.inside.marks.len (c.end_got.auto.marks ∙ c.deref_mut-2.ensures.len) ∙ c.end_got.ensures.marks))
    (rw (← index) c.index.ensures)
