-- What a sweep by a trail scan makes of the member.
use Rattle.std.proofs.Common.{◌≡◌, ◌∙◌, ℕ, ◌+◌, ◌*◌, ◌≤◌, ◌++◌, inr, refl, sym, ap, subst, None, length}
use Rattle.split_core.specs.Places.{at}
use Rattle.split_core.specs.Trail.{Trail, trail_start}
use Rattle.split_core.specs.TrailReads.{trail_by, OnWay}
use Rattle.split_grid.specs.Opening.{places_of}
use Rattle.split_grid.specs.Tokens.{Resting}
use Rattle.split_grid.specs.DoorLooks.{looks_by, HasLooked}
use Rattle.split_core.specs.declared.model.Comer.{Comer}
use Rattle.split_grid.specs.Trails.{Following, FollowsOn}
use Rattle.announce_board.specs.Tokens.{AtDesk}
use Rattle.desk_core.specs.declared.model.PenState.{PenState}
use Rattle.flat_queue.specs.declared.waiting.DeskTag.{DeskTag}
use Rattle.flat_queue.specs.declared.resting.Rest.{Rest}
use Rattle.flat_queue.specs.Members.{Joined}
use Rattle.flat_queue.specs.Sweeping.{IsServedBy}
use Rattle.flat_queue.specs.TrailSweeping.{IsFollowedBy, IsTrailSweptBy}
use Rattle.flat_queue.proofs.Swept.{named, member_of}

-- the scan is over
pub followed : (words : ℕ) (s m s' : Resting DeskTag) (f : Following) (z : Trail) (answers doors : ℕ) (p q : PenState) → s' ≡ record s { looks = s'.looks } → FollowsOn s.looks m z None s' f → IsServedBy words z.found answers p q → doors ≡ f.tracker.doors → doors ≤ places_of s.comers → answers ≤ doors → IsFollowedBy words s s' answers doors p q
followed words s m s' f z answers doors p q still h k e within least =
    let comers : s'.comers ≡ s.comers = ap (λ (x : Resting DeskTag). x.comers) still in
    let comer : s'.comer ≡ s.comer = ap (λ (x : Resting DeskTag). x.comer) still in
    let end = h.ended refl in
    let all : doors ≡ h.trail.doors = e ∙ h.is.stores.doors in
    record {
      trail = h.trail;
      whole = record {
        words = h.is.words;
        by = h.is.is ∙ ap (λ n. trail_by n h.is.words) comers;
        looks = h.is.looks ∙ ap (λ n. s.looks ++ looks_by n trail_start h.is.words) comers;
        run = subst (λ n. HasLooked n s.comer s'.looks) comers (subst (λ (c : Comer). HasLooked s'.comers c s'.looks) comer end.run);
        over = end.over;
        way = λ p on. end.way p (subst (λ (c : Comer). OnWay c.turns p) (sym comer) on);
        read_all = all;
        few = subst (λ n. n ≤ 1 + 2 * length h.trail.found) (sym all) end.few;
        within = within;
      };
      served = subst (λ l. IsServedBy words l answers p q) (sym h.found) k;
      few = least;
    }

module _ (words : ℕ) (r : Rest) (s s' : Resting DeskTag) (p q : AtDesk) (answers doors : ℕ) (here : p.state.place ≡ at s.comer.turns) (table : q.table ≡ p.table) (k : IsFollowedBy words s s' answers doors p.state q.state) where
  parts : IsTrailSweptBy words (member_of r s p) answers doors (member_of r (record s { looks = s'.looks }) q)
  parts = record {
    stays = record {
      queue = ap (λ z. named s.table z s.comers s.tag q.state.room) table ∙ ap (λ z. named s.table p.table s.comers s.tag z) k.served.keeps.room;
      comer = refl;
      scan = refl;
      door_looks = refl;
      rest = refl;
    };
    trail = k.trail;
    whole = k.whole;
    served = k.served;
    few = k.few;
    own = λ asked w. k.served.own asked w (k.whole.way p.state.place (inr (sym here)));
  }

pub trail_swept : (words : ℕ) (before : Joined) (r : Rest) (s t : Resting DeskTag) (p q : AtDesk) (answers doors : ℕ) → before ≡ member_of r s p → p.state.place ≡ at s.comer.turns → t ≡ record s { looks = t.looks } → q.table ≡ p.table → IsFollowedBy words s t answers doors p.state q.state
    → IsTrailSweptBy words before answers doors (member_of r t q)
trail_swept words before r s t p q answers doors e here still table k =
    subst (λ b. IsTrailSweptBy words b answers doors (member_of r t q)) (sym e) (subst (λ x. IsTrailSweptBy words (member_of r s p) answers doors (member_of r x q)) (sym still) (parts words r s t p q answers doors here table k))
