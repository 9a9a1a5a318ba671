-- What a leader answers, and what its steps make of it.
use Rattle.std.proofs.Common.{Bool, ◌≡◌, ℕ, ◌⊎◌, inl, inr, ⊎_elim, true, false, true≢false, refl, ap, sym, ◌∙◌, subst}
use Rattle.std.specs.Prelude.{Some, None}
use Rattle.pq_types.specs.Item.{Item}
use Rattle.pq_types.specs.Asked.{Request}
use Rattle.pq_types.specs.declared.request.Request.TheVariants.{Push, Pop, Least}
use Rattle.pq_types.specs.Asked.{Answer}
use Rattle.pq_types.specs.declared.answer.Answer.TheVariants as answer
use Rattle.pq_types.specs.declared.control.Kind.{Kind}
use Rattle.pq_types.specs.declared.control.Kind.TheVariants as kind
use Rattle.pq_types.specs.declared.control.Control.{Control}
use Rattle.pq_types.specs.declared.control.Control.TheVariants.{Nothing, Posted, Answered}
use Rattle.pq_types.specs.Control.{kind_of, request_with, request_item, kind_has_item, posted, answered, is_posted, is_answer, Carries}
use Rattle.pq_types.specs.Mail.{IsProperAnswerOf, IsProperControl}
use Rattle.desk_core.specs.Desk.{Desk}
use Rattle.desk_core.specs.Pen.{due_to, after_read}
use Rattle.desk_core.specs.declared.model.Standing.TheVariants.{Waiting}
use Rattle.desk_core.specs.declared.model.Due.{Due}
use Rattle.desk_core.specs.declared.model.PenState.{PenState}
use Rattle.announce_board.specs.Rule.{Seated}
use Rattle.announce_board.specs.Steps.{pen_at, StandsAt}
use Rattle.announce_board.specs.ItemWords.{read_by}
use Rattle.announce_board.specs.Asking.{post_in}
use Rattle.announce_board.specs.Loads.{LoadsMail, LoadsCell}
use Rattle.announce_board.specs.Serving.{FindsPosted, FindsNone}
use Rattle.announce_board.specs.Told.{WaitersAreTold, PostsAreNew, IsNewPost, DuesStand}
use Rattle.announce_board.proofs.Looks.{pen_is}

pub proper_answered : (wide : Bool) (a : Answer) → IsProperAnswerOf wide a → IsProperControl (answered a)
proper_answered wide (answer.Entered n r) h = h.0
proper_answered wide answer.BookFull h = tt
proper_answered wide answer.NoMemory h = tt
proper_answered wide (answer.Refused why) h = tt

-- a post that was read, by its control and its cell
found_control : (c : Control) → None ≡ post_in c → is_posted c ≡ false
found_control Nothing e = refl
found_control (Posted s k) e = absurd (cc e)
found_control (Answered n) e = refl

post_is : (s : ℕ) (k : Kind) (c : Control) → Some (s, k) ≡ post_in c → c ≡ Posted s k
post_is s k Nothing e = absurd (cc e)
post_is s k (Posted t j) e =
    let f : (s, k) ≡ (t, j) = cc in
    let fs : ℕ × Kind → ℕ = λ x. x.0 in
    let fk : ℕ × Kind → Kind = λ x. x.1 in
    ap (λ a. Posted a j) (sym (ap fs f)) ∙ ap (Posted s) (sym (ap fk f))
post_is s k (Answered n) e = absurd (cc e)

module _ (words : ℕ) (waiters : WaitersAreTold) (posts : PostsAreNew) (dues : DuesStand) where
  own_found : (d : Desk) (p : PenState) (place : ℕ) (asked : Request) → StandsAt d p → place ≡ p.place → p.standing ≡ Waiting asked
      → (d.control place ≡ posted p.posts asked) ⊎ (is_answer (d.control place) ≡ true)
  own_found d p place asked s here waits =
      let t = waiters d s.seat p s.meets s.has asked waits in
      ⊎_elim (λ u. inl (ap d.control here ∙ u.0)) (λ u. inr (ap is_answer (ap d.control here ∙ u.1))) t.found

  pub finds_none : (place : ℕ) (before after : Seated) → LoadsMail place before None after → FindsNone place (pen_at before) (pen_at after)
  finds_none place before after h =
      let p = pen_at before in
      let d = h.read.desk in
      let no = found_control (d.control place) h.post in
      record {
        control = d.control place;
        not_posted = no;
        next = pen_is before after (after_read p place (d.control place)) h.read.next;
        own = λ asked here waits. ⊎_elim (λ u. let f : true ≡ false = sym (ap is_posted u) ∙ no in absurd (true≢false f)) (λ u. u) (own_found d p place asked h.read.stands here waits);
      }

  new_post : (place : ℕ) (before after : Seated) (serial : ℕ) (k : Kind) → LoadsMail place before (Some (serial, k)) after → (pen_at before).leading ≡ true → IsNewPost (pen_at before) place serial
  new_post place before after serial k h leads =
      posts h.read.desk h.read.stands.seat (pen_at before) h.read.stands.meets h.read.stands.has place serial k leads (post_is serial k (h.read.desk.control place) h.post)

  -- the pen after it has read such a control
  pub read_is : (place : ℕ) (before after : Seated) (serial : ℕ) (k : Kind) → LoadsMail place before (Some (serial, k)) after → pen_at after ≡ after_read (pen_at before) place (Posted serial k)
  read_is place before after serial k h =
      pen_is before after (after_read (pen_at before) place (h.read.desk.control place)) h.read.next ∙ ap (after_read (pen_at before) place) (post_is serial k (h.read.desk.control place) h.post)

  -- at its own place a waiting leader finds its own post
  own_post : (place : ℕ) (before after : Seated) (serial : ℕ) (k : Kind) (asked : Request) → LoadsMail place before (Some (serial, k)) after → place ≡ (pen_at before).place → (pen_at before).standing ≡ Waiting asked
      → (serial ≡ (pen_at before).posts) × (k ≡ kind_of asked)
  own_post place before after serial k asked h here waits =
      let p = pen_at before in
      let c = h.read.desk.control place in
      let is = post_is serial k c h.post in
      ⊎_elim
      (λ u. let f : Posted serial k ≡ posted p.posts asked = sym is ∙ u in let a : serial ≡ p.posts = cc in let b : k ≡ kind_of asked = cc in (a, b))
      (λ u. let f : true ≡ false = sym u ∙ ap is_answer is in absurd (true≢false f))
      (own_found h.read.desk p place asked h.read.stands here waits)

  finds_plain : (place : ℕ) (before after : Seated) (serial : ℕ) (k : Kind) (x : Item) → LoadsMail place before (Some (serial, k)) after → (pen_at before).leading ≡ true → kind_has_item k ≡ false
      → FindsPosted words place (pen_at before) serial (request_with k x) (pen_at after)
  finds_plain place before after serial kind.Push x h leads plain = absurd (true≢false plain)
  finds_plain place before after serial kind.Pop x h leads plain =
      let n = new_post place before after serial kind.Pop h leads in
      record {
        in_range = n.in_range;
        above = n.above;
        last = n.own;
        next = read_is place before after serial kind.Pop h;
        own = λ asked here waits. let o = own_post place before after serial kind.Pop asked h here waits in (o.0, pop_is asked o.1);
      }
    where
      pop_is : (q : Request) → kind.Pop ≡ kind_of q → Pop ≡ q
      pop_is (Push y) e = absurd (cc e)
      pop_is Pop e = refl
      pop_is Least e = absurd (cc e)
  finds_plain place before after serial kind.Least x h leads plain =
      let n = new_post place before after serial kind.Least h leads in
      record {
        in_range = n.in_range;
        above = n.above;
        last = n.own;
        next = read_is place before after serial kind.Least h;
        own = λ asked here waits. let o = own_post place before after serial kind.Least asked h here waits in (o.0, least_is asked o.1);
      }
    where
      least_is : (q : Request) → kind.Least ≡ kind_of q → Least ≡ q
      least_is (Push y) e = absurd (cc e)
      least_is Pop e = absurd (cc e)
      least_is Least e = refl

  pub finds_plain_at : (place : ℕ) (before after : Seated) (serial : ℕ) (k : Kind) (x : Item) (q : Request) → LoadsMail place before (Some (serial, k)) after → (pen_at before).leading ≡ true → kind_has_item k ≡ false
      → q ≡ request_with k x → FindsPosted words place (pen_at before) serial q (pen_at after)
  finds_plain_at place before after serial k x q h leads plain e = subst (λ r. FindsPosted words place (pen_at before) serial r (pen_at after)) (sym e) (finds_plain place before after serial k x h leads plain)

  pub push_is : (k : Kind) → kind_has_item k ≡ true → k ≡ kind.Push
  push_is kind.Push e = refl
  push_is kind.Pop e = absurd (true≢false (sym e))
  push_is kind.Least e = absurd (true≢false (sym e))

  -- the item that a leader reads at its own place is that of its own push
  own_push : (e : Desk) (q : PenState) (due : Due) (asked : Request) → StandsAt e q → q.due ≡ Some due → due.kind ≡ kind.Push → due.place ≡ q.place → q.standing ≡ Waiting asked → Push (e.item due.place) ≡ asked
  own_push e q due asked s is_due push here waits =
      let t = waiters e s.seat q s.meets s.has asked waits in
      let stands = dues e s.seat q s.meets s.has due is_due in
      let there : e.control q.place ≡ Posted due.serial kind.Push = ap e.control (sym here) ∙ (stands ∙ ap (Posted due.serial) push) in
      ⊎_elim
      (λ u. let f : Posted due.serial kind.Push ≡ posted q.posts asked = sym there ∙ u.0 in let g : kind.Push ≡ kind_of asked = cc in carried asked (e.item due.place) g (subst (Carries (request_item asked)) (ap e.item (sym here)) u.1))
      (λ u. let f : Posted due.serial kind.Push ≡ answered u.0 = sym there ∙ u.1 in absurd (cc f))
      t.found
    where
      carried : (r : Request) (x : Item) → kind.Push ≡ kind_of r → Carries (request_item r) x → Push x ≡ r
      carried (Push y) x g h = ap Push h
      carried Pop x g h = absurd (cc g)
      carried Least x g h = absurd (cc g)

  pub due_read : (place : ℕ) (before after : Seated) (serial : ℕ) (k : Kind) → LoadsMail place before (Some (serial, k)) after → (pen_at after).due ≡ Some (due_to place serial k None)
  due_read place before after serial k h = ap (λ (q : PenState). q.due) (read_is place before after serial k h)

  pub finds_push : (place : ℕ) (before between after : Seated) (serial : ℕ) (k : Kind) (x : Item) → LoadsMail place before (Some (serial, k)) between → (pen_at before).leading ≡ true → kind_has_item k ≡ true
      → LoadsCell words between x after → FindsPosted words place (pen_at before) serial (Push x) (pen_at after)
  finds_push place before between after serial k x h leads push l =
      let p = pen_at before in
      let q = pen_at between in
      let n = new_post place before between serial k h leads in
      let k_is = push_is k push in
      let due = due_to place serial kind.Push None in
      let f : Some l.due ≡ Some due = sym l.is_due ∙ (due_read place before between serial k h ∙ ap (λ j. Some (due_to place serial j None)) k_is) in
      let due_is : l.due ≡ due = cc in
      let q_is : q ≡ after_read p place (posted serial (Push x)) = read_is place before between serial k h ∙ ap (λ j. after_read p place (Posted serial j)) k_is in
      record {
        in_range = n.in_range;
        above = n.above;
        last = n.own;
        next = pen_is between after (read_by words q l.due x) l.next ∙ (ap (λ d. read_by words q d x) due_is ∙ ap (λ o. read_by words o due x) q_is);
        own = λ asked here waits.
            let o = own_post place before between serial k asked h here waits in
            let mine : Push (l.desk.item l.due.place) ≡ asked = own_push l.desk q l.due asked l.stands l.is_due (ap (λ (d : Due). d.kind) due_is)
            (ap (λ (d : Due). d.place) due_is ∙ (here ∙ ap (λ (r : PenState). r.place) (sym q_is))) (ap (λ (r : PenState). r.standing) q_is ∙ waits) in
            (o.0, ap Push l.item ∙ mine);
      }
