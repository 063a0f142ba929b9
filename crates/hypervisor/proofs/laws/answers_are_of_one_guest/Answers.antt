use Rattle.hypervisor.proofs.laws.answers_are_of_one_guest.Goals as goal

pub returns : goal.returns
returns g c =
    let law = c.clients_have_one_guest_that_never_fails.ensures in
    let start = g.P.Pair.start in
    let seen = c.args.client.now.seen in
    let legal = c.keep.ensures in
    λ none. record {
      legal = law.legal start seen legal none;
      answers = law.answers start seen legal none;
      came = λ d. law.landed start seen d;
    }
