-- The asker is hidden.
use Rattle.std.proofs.Common.{◌≡◌, ℕ, zero, suc, ◌+◌, ◌≤◌, Bool, cond, leb, List, [], ◌∷◌, length, is_some, Some, None, Option, sym, refl, ap, ◌∙◌, subst, arith}
use Rattle.std.proofs.lemmas.Bool.{leb-true, and_parts}
use Rattle.refusals.specs.declared.Refusal.{Refusal}
use Rattle.kinds.specs.Rules.{Model}
use Rattle.buckets.specs.Ends.{bucket_number, ends_of}
use Rattle.buckets.specs.Rows.{entry, In, with_set, rank_of, RowLaws}
use Rattle.buckets.specs.Rows as rows
use Rattle.buckets.specs.Regions.{bucket_of, region_over}
use Rattle.lines.specs.Meaning.{oldest}
use Rattle.register.specs.Answers.{numbered}
use Rattle.open_queries.specs.declared.handover.Handover.{Handover}
use Rattle.open_queries.specs.declared.entry.Stage.{Stage}
use Rattle.model.specs.Events.{Call, enter, move, leave, query, take_message, collect, hand_over, put_back, give_up, Query, query_by, unspent, Event, entered, moved, left, asked, taken, collected, handed_over, returned, given_up, refused, History, refuses, call_of, answer_of, space_of}
use Rattle.model.specs.Changes.{is_open, is_in_hand}
use Rattle.model.specs.Histories.{Box, count, with_query, with_message, staged_by, place_change, query_change, is_take, asked_in, placed_by, place_of, stage, asker, serials, present, open_count, in_hand_count, row, bucket, message_with, message_of, sent, waiting, next_serial}
use Rattle.model.specs.Outcomes.{Life, first_refusal, checks, accepted, judged, outcome}
use Rattle.model.specs.Laws.{SameButSet, same, other_given, other_named, AnswersBy, HasBucket, AlikeCall, same_call, other_member, other_handed_over, other_put_back, Alike}
use Rattle.model.proofs.Members.{AllMemberLaws, AllEndsLaws, in_members, same_bucket}
use Rattle.model.proofs.RegionLeast.{present_proper, row_holds}

pub row_same : {P R : Type 0} (m : Model P R) (f g : ℕ → Option P) → ((n : ℕ) → f n ≡ g n) → (c : ℕ) → rows.row m f c ≡ rows.row m g c
row_same m f g e zero = refl
row_same m f g e (suc c) =
    ap (λ o. with_set m (suc c) o (rows.row m f c)) (e (suc c)) ∙ ap (with_set m (suc c) (g (suc c))) (row_same m f g e c)

count_same : (p q : ℕ → Bool) → ((n : ℕ) → p n ≡ q n) → (xs : List ℕ) → count p xs ≡ count q xs
count_same p q e [] = refl
count_same p q e (x ∷ xs) =
    ap (λ b. cond b (1 + count p xs) (count p xs)) (e x) ∙ ap (λ c. cond (q x) (1 + c) c) (count_same p q e xs)

module _ {P R : Type 0} {m : Model P R} (box : Box m) where
  -- Two events after g that change the same, send the same, and answer the same but for the set that is named.
  record Twin (g : History P) (d e : Event P) : Type 0 where
    places : (n : ℕ) (o : Option P) → placed_by (place_change d) n o ≡ placed_by (place_change e) n o
    stages : (s : ℕ) (x : Option Stage) → staged_by (query_change d) s x ≡ staged_by (query_change e) s x
    given : (xs : List ℕ) → with_query (asked_in d) xs ≡ with_query (asked_in e) xs
    messages : message_of box g (asked_in d) ≡ message_of box g (asked_in e)
    takes : is_take d ≡ is_take e
    answers : SameButSet (answer_of d) (answer_of e)

  itself : {g : History P} (e : Event P) → Twin g e e
  itself e =
      record { places = λ n o. refl; stages = λ s x. refl; given = λ xs. refl; messages = refl; takes = refl; answers = same }

  refused_twin : {g : History P} (c d : Call P) (r : Refusal) (a b : List ℕ) → a ≡ b → Twin g (refused c r a) (refused d r b)
  refused_twin c d r a b e =
      record {
        places = λ n o. refl;
        stages = λ s x. refl;
        given = λ xs. refl;
        messages = refl;
        takes = refl;
        answers = subst (λ u. SameButSet (refuses r a) (refuses r u)) e same;
      }

  asked_twin : {g : History P} (n o k : ℕ) (t : List ℕ) (s : ℕ) → bucket box g k n ≡ bucket box g k o
      → Twin g (asked (query_by n k t s)) (asked (query_by o k t s))
  asked_twin n o k t s e =
      record {
        places = λ n o. refl;
        stages = λ s x. refl;
        given = λ xs. refl;
        messages = ap (λ es. message_with box (query_by n k t s) (region_over m es)) e;
        takes = refl;
        answers = same;
      }

  collected_twin : {g : History P} (s n o : ℕ) → Twin g (collected s (unspent s n)) (collected s (unspent s o))
  collected_twin s n o =
      record { places = λ n o. refl; stages = λ s x. refl; given = λ xs. refl; messages = refl; takes = refl; answers = other_given }

  handed_twin : {g : History P} (a b : Handover) (n o : ℕ) → a.serial ≡ b.serial → Twin g (handed_over a n) (handed_over b o)
  handed_twin a b n o e =
      record {
        places = λ n o. refl;
        stages = λ s x. rw e;
        given = λ xs. refl;
        messages = refl;
        takes = refl;
        answers = other_named;
      }

  returned_twin : {g : History P} (a b : Handover) (n o : ℕ) → a.serial ≡ b.serial → Twin g (returned a n) (returned b o)
  returned_twin a b n o e =
      record {
        places = λ n o. refl;
        stages = λ s x. rw e;
        given = λ xs. refl;
        messages = refl;
        takes = refl;
        answers = other_named;
      }

  -- Two histories that say the same, but for the sets that put queries.
  record Agree (g h : History P) : Type 0 where
    places : (n : ℕ) → place_of g n ≡ place_of h n
    stages : (s : ℕ) → stage g s ≡ stage h s
    given : serials g ≡ serials h
    sends : sent box g ≡ sent box h
    takes : count is_take g ≡ count is_take h
    answers : AnswersBy SameButSet g h

  message_same : (g h : History P) → row box g ≡ row box h → (o : Option Query) → message_of box g o ≡ message_of box h o
  message_same g h e None = refl
  message_same g h e (Some q) = ap (λ es. message_with box q (region_over m (bucket_of q.size q.set es))) e

  module _ {g h : History P} (a : Agree g h) where
    same_row : row box g ≡ row box h
    same_row = row_same m (place_of g) (place_of h) a.places box.capacity

    same_open : open_count g ≡ open_count h
    same_open =
        count_same (λ s. is_open (stage g s)) (λ s. is_open (stage h s)) (λ s. ap is_open (a.stages s)) (serials g)
        ∙ ap (λ l. count (λ s. is_open (stage h s)) l) a.given

    same_in_hand : in_hand_count g ≡ in_hand_count h
    same_in_hand =
        count_same (λ s. is_in_hand (stage g s)) (λ s. is_in_hand (stage h s)) (λ s. ap is_in_hand (a.stages s)) (serials g)
        ∙ ap (λ l. count (λ s. is_in_hand (stage h s)) l) a.given

    same_waiting : waiting box g ≡ waiting box h
    same_waiting = rw (a.takes, a.sends)

    same_next : next_serial box g ≡ next_serial box h
    same_next = rw a.given

    same_checks : (c : Call P) → checks box g c ≡ checks box h c
    same_checks (enter n p) = rw (a.places n)
    same_checks (move n p) = rw (a.places n)
    same_checks (leave n) = rw (a.places n)
    same_checks (query n k t) = rw (a.places n, same_row, same_open, same_in_hand, a.given, same_waiting)
    same_checks (take_message b) = rw same_waiting
    same_checks (collect s) = rw (a.stages s)
    same_checks (hand_over f) = rw (a.stages f.serial)
    same_checks (put_back f) = rw (a.stages f.serial)
    same_checks (give_up s) = rw (a.stages s)

    same_accepted : (c : Call P) → Twin g (accepted box g c) (accepted box h c)
    same_accepted (enter n p) = itself (entered n p)
    same_accepted (move n p) = itself (moved n p)
    same_accepted (leave n) = itself (left n)
    same_accepted (query n k t) =
        subst (λ s. Twin g (asked (query_by n k t (next_serial box g))) (asked (query_by n k t s))) same_next (itself _)
    same_accepted (take_message b) =
        subst (λ w. Twin g (taken b (oldest (waiting box g) b)) (taken b (oldest w b))) same_waiting (itself _)
    same_accepted (collect s) = collected_twin s (asker g s) (asker h s)
    same_accepted (hand_over f) = handed_twin f f _ _ refl
    same_accepted (put_back f) = returned_twin f f _ _ refl
    same_accepted (give_up s) = itself (given_up s)

    agree_step : (d e : Event P) → Twin g d e → Agree (d ∷ g) (e ∷ h)
    agree_step d e t =
        record {
          places = λ n. t.places n (place_of g n) ∙ ap (placed_by (place_change e) n) (a.places n);
          stages = λ s. t.stages s (stage g s) ∙ ap (staged_by (query_change e) s) (a.stages s);
          given = t.given (serials g) ∙ ap (with_query (asked_in e)) a.given;
          sends =
              ap (λ o. with_message o (sent box g)) (t.messages ∙ message_same g h same_row (asked_in e))
              ∙ ap (with_message (message_of box h (asked_in e))) a.sends;
          takes =
              ap (λ b. cond b (1 + count is_take g) (count is_take g)) t.takes
              ∙ ap (λ c. cond (is_take e) (1 + c) c) a.takes;
          answers = (t.answers, a.answers);
        }

  judged_twin : (g : History P) (c d : Call P) → space_of c ≡ space_of d → (r : Option Refusal) (x y : Event P) → Twin g x y
      → Twin g (judged box c r x) (judged box d r y)
  judged_twin g c d e None x y t = t
  judged_twin g c d e (Some r) x y t = refused_twin c d r (space_of c) (space_of d) e

  -- Two calls with the same checks and bytes, whose accepted outcomes are twins.
  outcome_twin : (g h : History P) (c d : Call P) → space_of c ≡ space_of d → checks box g c ≡ checks box h d
      → Twin g (accepted box g c) (accepted box h d) → Twin g (outcome box g c) (outcome box h d)
  outcome_twin g h c d e k t =
      subst (λ ks. Twin g (outcome box g c) (judged box d (first_refusal ks) (accepted box h d))) k
      (judged_twin g c d e (first_refusal (checks box g c)) (accepted box g c) (accepted box h d) t)

  module _ (laws : RowLaws m) (ends : AllEndsLaws) (members : AllMemberLaws P) {g h : History P} (l : Life box g) (a : Agree g h) where
    member_checks : (n o k : ℕ) (t : List ℕ) (p q : P) → place_of g n ≡ Some p → place_of g o ≡ Some q
        → checks box g (query n k t) ≡ checks box g (query o k t)
    member_checks n o k t p q en eo =
        let num : numbered box.capacity n ≡ numbered box.capacity o =
        (present_proper box g l n p en).0 ∙ sym (present_proper box g l o q eo).0 in
        let here : present g n ≡ present g o = ap is_some en ∙ sym (ap is_some eo) in
        rw (num, here)

    member_twin : (n o k s : ℕ) (t : List ℕ) (p : P) → HasBucket box g n k → In (entry o p) (bucket box g k n)
        → (checks box g (query n k t) ≡ checks box g (query o k t)) × Twin g (asked (query_by n k t s)) (asked (query_by o k t s))
    member_twin n o k s t p b i =
        let holds = row_holds box laws g l in
        let es = row box g in
        let x = entry n b.place in
        let ix : In x es = holds.everyone n b.place b.present in
        let two = leb-true 2 k (and_parts (leb 2 k) (leb k 64) b.allowed).0 in
        let one : 1 ≤ k = omega arith in
        let each = laws.one_each (place_of g) box.capacity holds.admitted in
        let iy : In (entry o p) es =
        in_members (entry o p) (ends_of (length es) k (bucket_number (length es) k (rank_of n es))) es i in (
          member_checks n o k t b.place p b.present (holds.is_row.only (entry o p) iy).1.1,
          asked_twin n o k t s
              (same_bucket ends k es one b.enough (members k es one b.enough each) x (entry o p) ix i),
        )

    outcomes : {c d : Call P} → AlikeCall box g c d → Twin g (outcome box g c) (outcome box h d)
    outcomes (same_call {c}) = outcome_twin g h c c refl (same_checks a c) (same_accepted a c)
    outcomes (other_member {n} {o} {k} {t} {p} b i) =
        let w = member_twin n o k (next_serial box g) t p b i in
        outcome_twin g h (query n k t) (query o k t) refl (w.0 ∙ same_checks a (query o k t))
        (subst (λ s. Twin g (asked (query_by n k t (next_serial box g))) (asked (query_by o k t s))) (same_next a) w.1)
    outcomes (other_handed_over {a = x} {b = y} e) =
        outcome_twin g h (hand_over x) (hand_over y) refl (same_checks a (hand_over x) ∙ rw e) (handed_twin x y _ _ e)
    outcomes (other_put_back {a = x} {b = y} e) =
        outcome_twin g h (put_back x) (put_back y) refl (same_checks a (put_back x) ∙ rw e) (returned_twin x y _ _ e)

  module _ (laws : RowLaws m) (ends : AllEndsLaws) (members : AllMemberLaws P) where
    agree : (g h : History P) → Life box g → Life box h → Alike box g h → Agree g h
    agree [] [] lg lh al =
        record { places = λ n. refl; stages = λ s. refl; given = refl; sends = refl; takes = refl; answers = tt }
    agree [] (e ∷ h) lg lh al = absurd al
    agree (d ∷ g) [] lg lh al = absurd al
    agree (d ∷ g) (e ∷ h) lg lh al =
        let a = agree g h lg.1 lh.1 al.1 in
        let t = outcomes laws ends members lg.1 a al.0 in
        let u : Twin g d (outcome box h (call_of e)) = subst (λ x. Twin g x (outcome box h (call_of e))) (sym lg.0) t in
        agree_step a d e (subst (λ x. Twin g d x) (sym lh.0) u)

    pub asker_hidden : (g h : History P) → Life box g → Life box h → Alike box g h
        → AnswersBy SameButSet g h × (sent box g ≡ sent box h)
    asker_hidden g h lg lh al = let a = agree g h lg lh al in (a.answers, a.sends)
