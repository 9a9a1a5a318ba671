use Rattle.std.proofs.Common.{◌+◌, length, rules, sym, subst}
use Rattle.pq_types.specs.declared.answer.Answer.TheVariants.{NoMemory}
use Rattle.pq_types.specs.History.{left}
use Rattle.pq_book.specs.Book.{AllHaveRoom}
use Rattle.desk_core.specs.Knows.{NoneAbove}
use Rattle.desk_core.specs.Words.{word_number}
use Rattle.announce_board.specs.Steps.{pen_at}
use Rattle.announce_board.specs.Tokens.{AtDesk}
use Rattle.announce_board.specs.Serving.{ServesOtherThanBy}
use Rattle.announce_board.proofs.Serves.{serves_used}
use Rattle.announce_board.proofs.desk.Desk.serve.Goals as goal

pub returns-clause-memory : goal.returns-clause-memory
returns-clause-memory g c =
    subst (λ (p : AtDesk). AllHaveRoom g.S.Store.room p.state.room → ServesOtherThanBy (word_number g.P.Part.wide) NoMemory c.args.place p.state (pen_at c.serve_place.new.seat.me) c.serve_place.new.book) c.pen.view_is c.serve_place.ensures.memory

pub returns-clause-spare : goal.returns-clause-spare
returns-clause-spare g c =
    subst (λ (p : AtDesk). AllHaveRoom g.S.Store.room (length (left p.state.hand) + 1) → ServesOtherThanBy (word_number g.P.Part.wide) NoMemory c.args.place p.state (pen_at c.serve_place.new.seat.me) c.serve_place.new.book) c.pen.view_is c.serve_place.ensures.spare

pub returns-clause-lead : goal.returns-clause-lead
returns-clause-lead g c =
    record {
      table = search rules;
      place = search rules;
      leads = search rules;
      book = search rules;
      used = serves_used _ c.serve_place.result c.args.place (pen_at c.pen.inside.seat.me) (pen_at c.serve_place.new.seat.me) c.serve_place.new.book c.serve_place.ensures.serves
          (subst (λ (p : AtDesk). NoneAbove p.state.place p.state.posts p.state.hand) (sym c.pen.view_is) c.requires.lead.used);
    }
