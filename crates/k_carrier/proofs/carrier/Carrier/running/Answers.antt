use Rattle.k_carrier.proofs.carrier.Carrier.running.Goals as goal

pub returns-in-Some : goal.returns-in-Some
returns-in-Some c = λ script.
    let owner = c.owner.ensures script in
    let serial = c.serial.ensures script in
    let done = c.done.ensures script in
    let runner = c.runner.ensures script in
    let helped = c.is_helped.ensures in
    rw c.in-Some.is (cc)
