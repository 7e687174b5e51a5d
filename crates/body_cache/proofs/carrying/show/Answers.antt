use Rattle.std.proofs.Common.{inr, List, Result, refl, sym, subst, ℕ}
use Rattle.mail_top.specs.Causing.{HasCauses}
use Rattle.mail_top.specs.Course.{course_of}
use Rattle.body_cache.specs.Causing.{HasShelfCause, shelving_of}
use Rattle.body_cache.specs.Ending.{EndsShow}
use Rattle.body_cache.specs.Telling.{status_of_read, status_of_unread, text_of_read}
use Rattle.body_cache.specs.declared.refused.ReadFault.{ReadFault}
use Rattle.body_cache.proofs.Founds.{made}
use Rattle.body_cache.proofs.Looking.{reads_outside}
use Rattle.body_cache.proofs.Unfound.{none_kept, shelf_alone, ungot_show, unfound_causes, unfound_shelf, unfound_show}
use Rattle.body_cache.proofs.carrying.show.Goals as goal

-- no key was found
pub returns-in_err-key-clause-ends : goal.returns-in_err-key-clause-ends
returns-in_err-key-clause-ends g c = λ t.
    let k = course_of g.D.Clocked g.D.Disk.seen c.args.disk.now c.find.new.disk in
    let v = shelving_of g.K.Shelf c.args.shelf.now c.args.shelf.now in
    subst (λ (r : Result (List ℕ) ReadFault). EndsShow c.args.name.now c.args.uid k v (status_of_read r) (text_of_read r))
    (sym (made c.from_residual.result _ c.from_residual.ensures.1))
    (unfound_show k v c.find.ensures.link (reads_outside k.old k.new (c.find.ensures.reads t)) (λ told. refl) c.args.name.now c.args.uid
    c.in_err-key.field-0.0 (c.find.ensures.why t c.in_err-key.field-0.0 c.in_err-key.was))

pub returns-in_err-key-clause-causes : goal.returns-in_err-key-clause-causes
returns-in_err-key-clause-causes g c =
    subst (λ (r : Result (List ℕ) ReadFault). HasCauses g.D.Clocked c.args.disk.now c.find.new.disk (status_of_read r))
    (sym (made c.from_residual.result _ c.from_residual.ensures.1))
    (unfound_causes g.D.Clocked c.args.disk.now c.find.new.disk c.find.result c.in_err-key.field-0.0 c.in_err-key.was c.find.ensures.only
    c.find.ensures.cause c.find.ensures.unfailed c.find.ensures.count c.find.ensures.link)

pub returns-in_err-key-clause-shelf : goal.returns-in_err-key-clause-shelf
returns-in_err-key-clause-shelf g c =
    subst (λ (r : Result (List ℕ) ReadFault). HasShelfCause g.K.Shelf c.args.shelf.now c.args.shelf.now (status_of_read r))
    (sym (made c.from_residual.result _ c.from_residual.ensures.1))
    (shelf_alone g.K.Shelf c.args.shelf.now (status_of_unread c.in_err-key.field-0.0)
    (λ is. unfound_shelf c.in_err-key.field-0.0 (c.find.ensures.only c.in_err-key.field-0.0 c.in_err-key.was) is))

-- the shelf didn't tell
pub returns-in_err-found-clause-ends : goal.returns-in_err-found-clause-ends
returns-in_err-found-clause-ends g c = λ t.
    let k = course_of g.D.Clocked g.D.Disk.seen c.args.disk.now c.find.new.disk in
    let v = shelving_of g.K.Shelf c.args.shelf.now c.get.new.self in
    subst (λ (r : Result (List ℕ) ReadFault). EndsShow c.args.name.now c.args.uid k v (status_of_read r) (text_of_read r))
    (sym (made c.from_residual-in_err-found.result _ c.from_residual-in_err-found.ensures.1))
    (ungot_show k v c.args.name.now c.args.uid c.get.ensures.kept c.in_err-found.field-0.0)

-- it has no entry
pub returns-in-None-clause-ends : goal.returns-in-None-clause-ends
returns-in-None-clause-ends g c = λ t. inr (record {
  key = c.in_ok-key.key;
  finds = c.in_ok-key.ensures.finds t;
  none = λ tells. none_kept _ _ _ (c.in_ok-found.ensures.text tells) c.in-None.is;
  untouched = c.get.ensures.kept;
  text_is = refl;
})
