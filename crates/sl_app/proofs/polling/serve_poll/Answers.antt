use Rattle.std.proofs.Common.{◌≡◌, length, sym, subst, ap, ◌∙◌}
use Rattle.std.specs.Prelude.{◌<◌, IfSome}
use Rattle.sl_machine.specs.Book.{Book}
use Rattle.sl_layout.specs.Net.{Net}
use Rattle.sl_net.specs.Input.{Input}
use Rattle.sl_model.specs.Books.{schedule_of}
use Rattle.sl_model.specs.Losses.{losses}
use Rattle.sl_model.specs.Setup.{setup_of}
use Rattle.sl_model.specs.World.{IsLegal}
use Rattle.sl_poll.specs.PollText.{poll_text}
use Rattle.sl_poll.specs.Reading.{reads, broken_by}
use Rattle.sl_world.specs.World.{scene}
use Rattle.sl_proto.specs.RunBook.{IsRunBook}
use Rattle.sl_app.proofs.polling.serve_poll.Goals as goal

pub poll_of-polled-requires : goal.poll_of-polled-requires
poll_of-polled-requires c =
    let i = c.args.input.now in
    let book : c.book.inside.entries.items ≡ (scene c.in_ok-ran.ran.world).book = ap (λ (b : Book). b.entries) c.book.view_is ∙ c.into_book-nodes.ensures.book in
    let schedule : c.as_slice-2.result.now ≡ schedule_of (scene c.in_ok-ran.ran.world).book = c.as_slice-2.ensures.value ∙ c.in_ok-schedule.ensures ∙ ap schedule_of (c.as_slice.ensures.value ∙ book) in
    record { addresses = c.requires.addresses; legal = subst (IsLegal (setup_of i) (losses i)) (sym schedule) c.in_ok-ran.ensures.run.run.legal }

pub polled_bytes-text-requires : goal.polled_bytes-text-requires
polled_bytes-text-requires c =
    subst (λ (net : Net). IfSome c.in_ok-polled.polled.broken (λ p. p.link < length net.links)) (sym (ap (λ (i : Input). i.net) c.input.view_is)) c.in_ok-polled.ensures.link

pub returns-clause-reading : goal.returns-clause-reading
returns-clause-reading c =
    let i = c.args.input.now in
    let net : c.input.inside.net ≡ i.net = ap (λ (i : Input). i.net) c.input.view_is in
    let book : c.book.inside.entries.items ≡ c.into_book-nodes.result.1.entries = ap (λ (b : Book). b.entries) c.book.view_is in
    let schedule : c.as_slice-2.result.now ≡ schedule_of c.book.inside.entries.items = c.as_slice-2.ensures.value ∙ c.in_ok-schedule.ensures ∙ ap schedule_of c.as_slice.ensures.value in
    let told = c.in_ok-polled.ensures in
    let served = c.text_of_run.ensures in
    rw (served.book, served.front, served.nodes, served.text) (record {
      run = subst (λ es. IsRunBook i (losses i) es c.in_ok-ran.ran.front) (sym (book ∙ c.into_book-nodes.ensures.book)) c.in_ok-ran.ensures.run;
      text_is = c.in_ok-text.ensures ∙ (λ j. poll_text (net j) (told.reads j) (told.broken j))
          ∙ ap (λ es. poll_text i.net (reads (setup_of i) (losses i) es c.args.start c.args.gap) (broken_by (setup_of i) (losses i) es c.args.start c.args.gap)) schedule;
    })
