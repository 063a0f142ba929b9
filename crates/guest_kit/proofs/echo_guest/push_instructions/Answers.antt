-- what is put behind the image is three lists of words, which are the program's
use Rattle.std.proofs.Common.{◌++◌, ◌∙◌, ap}
use Rattle.guest_kit.specs.Image.{word_bytes}
use Rattle.guest_kit.specs.Echo.{echo_setup, echo_turn, echo_send}
use Rattle.guest_kit.proofs.WordLemmas.{on_ok, put_behind}
use Rattle.guest_kit.proofs.echo_guest.push_instructions.Goals as goal

pub returns-clause-items : goal.returns-clause-items
returns-clause-items c =
    on_ok c.push_words-3.result
    (λ third. put_behind c.args.image.now.items c.push_words.new.image.items c.push_words-2.new.image.items
    c.push_words-3.new.image.items echo_setup echo_turn echo_send
    (c.in_ok-push_words.ensures.items ∙ ap (λ x. c.args.image.now.items ++ word_bytes x) c.setup.ensures)
    (c.in_ok-push_words-2.ensures.items ∙ ap (λ x. c.push_words.new.image.items ++ word_bytes x) c.turn.ensures)
    (third ∙ ap (λ x. c.push_words-2.new.image.items ++ word_bytes x) c.send.ensures))
    c.push_words-3.ensures.items
