-- digits without upper case are spelled as what they stand for is
use Rattle.std.{proofs.Common.{◌∙◌, ap, sym}, specs.{Char.is_ascii_uppercase, List.list_any, Result.result_ok}}
use Rattle.hex.{specs.Hex.decode_sized, proofs.HexLemmas.decode_sized-encode_lower}
use Rattle.script_player.proofs.DigitLemmas.{sized-again, none_in_upper_case}
use Rattle.script_player.proofs.fields.hex_bytes.Goals as goal

pub returns-then-has_upper_case-clause-only : goal.returns-then-has_upper_case-clause-only
returns-then-has_upper_case-clause-only g c bytes long small spelled =
    cc (sym c.if-has_upper_case.true ∙ c.has_upper_case.ensures ∙ ap (list_any is_ascii_uppercase) spelled ∙ none_in_upper_case bytes small)

pub returns-clause-found : goal.returns-clause-found
returns-clause-found g c =
    let low = sym c.has_upper_case.ensures ∙ c.if-has_upper_case.false in
    rw c.ok.ensures.value (sized-again c.args.text.now g.row.N _ c.from_hex.ensures low).0

pub returns-clause-bytes : goal.returns-clause-bytes
returns-clause-bytes g c =
    let low = sym c.has_upper_case.ensures ∙ c.if-has_upper_case.false in
    rw c.ok.ensures.value (sized-again c.args.text.now g.row.N _ c.from_hex.ensures low).1

pub returns-clause-only : goal.returns-clause-only
returns-clause-only g c bytes long small spelled = c.ok.ensures.value ∙ ap result_ok
    (c.from_hex.ensures ∙ ap (λ t. decode_sized t g.row.N) spelled ∙ decode_sized-encode_lower bytes g.row.N long small)
