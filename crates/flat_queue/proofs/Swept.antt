-- What a sweep of the parts makes of the member.
use Rattle.std.proofs.Common.{◌≡◌, ◌∙◌, ℕ, ◌≤◌, refl, sym, ap, subst, inr}
use Rattle.std.specs.List.{Contains}
use Rattle.atomic_table.specs.Seated.{TableId}
use Rattle.split_core.specs.Places.{at}
use Rattle.split_grid.specs.Tokens.{Resting}
use Rattle.announce_board.specs.Tokens.{AtDesk}
use Rattle.flat_queue.specs.declared.waiting.DeskTag.{DeskTag}
use Rattle.flat_queue.specs.declared.resting.Rest.{Rest}
use Rattle.flat_queue.specs.Members.{QueueName, Joined}
use Rattle.flat_queue.specs.Sweeping.{IsScanned, IsServedBy, IsSweptBy}

abbrev pub named : TableId → TableId → ℕ → DeskTag → ℕ → QueueName
named grid desk comers tag room = record { grid = grid; desk = desk; comers = comers; places = tag.places; room = room; terms = tag.terms }

abbrev pub member_of : Rest → Resting DeskTag → AtDesk → Joined
member_of r s p =
    record {
      queue = named s.table p.table s.comers s.tag p.state.room;
      comer = s.comer;
      scan = s.scan;
      door_looks = s.looks;
      pen = p.state;
      rest = r;
    }

pub swept_parts : (words : ℕ) (r : Rest) (s t : Resting DeskTag) (p q : AtDesk) (answers doors : ℕ) → p.state.place ≡ at s.comer.turns → IsScanned s doors t → q.table ≡ p.table → IsServedBy words t.scan.found answers p.state q.state → answers ≤ doors → IsSweptBy words (member_of r s p) answers doors (member_of r t q)
swept_parts words r s t p q answers doors here h table k few =
    let own_place : Contains t.scan.found p.state.place =
    subst (λ z. Contains z.found p.state.place) (sym h.scan) (h.ended.way p.state.place (inr (ap at h.still.turns ∙ sym here))) in
    record {
      queue = ap (λ z. named z q.table t.comers t.tag q.state.room) h.still.table
          ∙ (ap (λ z. named s.table z t.comers t.tag q.state.room) table
          ∙ (ap (λ z. named s.table p.table z t.tag q.state.room) h.still.comers
          ∙ (ap (λ (z : DeskTag). named s.table p.table s.comers z q.state.room) h.still.tag
          ∙ ap (λ z. named s.table p.table s.comers s.tag z) k.keeps.room)));
      id = h.still.id;
      turns = h.still.turns;
      steps = h.steps;
      read_all = h.read_all;
      within = h.within;
      few = few;
      over = h.over;
      scan = sym h.scan;
      door_looks = h.still.looks;
      rest = refl;
      ended = h.ended;
      served = k;
      own = λ asked w. k.own asked w own_place;
    }

pub swept_whole : (words : ℕ) (before : Joined) (r : Rest) (s t : Resting DeskTag) (p q : AtDesk) (answers doors : ℕ) → before ≡ member_of r s p → p.state.place ≡ at s.comer.turns → IsScanned s doors t → q.table ≡ p.table → IsServedBy words t.scan.found answers p.state q.state → answers ≤ doors → IsSweptBy words before answers doors (member_of r t q)
swept_whole words before r s t p q answers doors e here h table k few = subst (λ b. IsSweptBy words b answers doors (member_of r t q)) (sym e) (swept_parts words r s t p q answers doors here h table k few)
