-- A frame for everyone, one that is too short, one of another group, one for no client's number, one for a client.
use Rattle.std.proofs.Common.{sym, ◌∙◌, arith}
use Rattle.frame_ports.proofs.TargetLemmas.{
  addressed-all,
  addressed-one,
  addressed-none,
  addressed-short,
  routes_nowhere,
  routes_everywhere,
  routes_to_none_such,
  routes_to_one,
}
use Rattle.frame_ports.proofs.targets.Targets.of_frame.Goals as goal
use Rattle.frame_ports.proofs.targets.Targets.of_frame.Goals.{
  then-bytes-lt6-via-then-bytes-lt6,
  then-bytes-lt6-via-else-bytes-lt6+then-not-starts_with,
}

pub returns-then-starts_with : goal.returns-then-starts_with
returns-then-starts_with c = λ client pos most.
    routes_everywhere c.args.clients client c.all.result c.args.bytes.now (c.all.ensures client pos most)
    (addressed-all c.args.bytes.now client (sym c.starts_with.ensures.value ∙ c.if-starts_with.true))

pub returns-then-bytes-lt6 : goal.returns-then-bytes-lt6
returns-then-bytes-lt6 c = λ client pos most.
    elim c.then-bytes-lt6.branch [
      | then-bytes-lt6-via-then-bytes-lt6 w ↦
          routes_nowhere c.args.clients client c.args.bytes.now (addressed-short c.args.bytes.now client (omega arith))
      | then-bytes-lt6-via-else-bytes-lt6+then-not-starts_with w ↦
          let other = w.starts_with-else-bytes-lt6.ensures.value in
          routes_nowhere c.args.clients client c.args.bytes.now
          (addressed-none c.args.bytes.now client (sym c.starts_with.ensures.value ∙ c.if-starts_with.false)
          (sym other ∙ w.if-not-starts_with.true))
    ]

pub returns-then-client-eq0 : goal.returns-then-client-eq0
returns-then-client-eq0 c = λ client pos most.
    let named = addressed-one c.args.bytes.now client 0 (sym c.starts_with.ensures.value ∙ c.if-starts_with.false) (omega arith)
    (sym c.starts_with-else-bytes-lt6.ensures.value ∙ c.if-not-starts_with.false) in
    let d = c.from-client.ensures in
    routes_to_none_such c.args.clients client c.from-client.result c.args.bytes.now pos (rw (← d) at named) c.then-client-eq0.either

pub returns : goal.returns
returns c = λ client pos most.
    let named = addressed-one c.args.bytes.now client 0 (sym c.starts_with.ensures.value ∙ c.if-starts_with.false) (omega arith)
    (sym c.starts_with-else-bytes-lt6.ensures.value ∙ c.if-not-starts_with.false) in
    let d = c.from-client.ensures in
    routes_to_one c.args.clients client c.from-client.result c.args.bytes.now c.requires (omega arith) (omega arith) pos most
    (rw (← d) at named)
