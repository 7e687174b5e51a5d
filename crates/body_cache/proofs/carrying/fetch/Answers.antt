use Rattle.std.proofs.Common.{List, Result, refl, rules, subst, sym, ℕ}
use Rattle.mail_top.specs.Causing.{HasCauses}
use Rattle.mail_top.specs.Course.{course_of}
use Rattle.imap_model.specs.Talking.{Peer}
use Rattle.play_driver.proofs.Parts.{grows}
use Rattle.play_driver.specs.Granting.{IsBox}
use Rattle.world_traits.specs.LinkState.{LinkState}
use Rattle.world_traits.specs.Links.{Any, AnyStep, LinkStep}
use Rattle.body_cache.proofs.Carried.{failed_shelf, fetched_causes, finds_still, on_ok_more, put_blames, put_done, puts_as, unfetched_causes}
use Rattle.body_cache.proofs.Fetches.{fetched_ends, unfetched_ends}
use Rattle.body_cache.proofs.Keyed.{keyed}
use Rattle.body_cache.proofs.Looking.{looks_alone, looks_then, reads_outside}
use Rattle.body_cache.proofs.Unfound.{shelf_alone, unfound_causes, unfound_fetch, unfound_shelf}
use Rattle.body_cache.proofs.ReadServed.{put_served, serving_opened, unfetched_served, unfound_served}
use Rattle.body_cache.specs.Causing.{HasShelfCause, shelving_of}
use Rattle.body_cache.specs.Completing.{IsServed}
use Rattle.body_cache.specs.Ending.{EndsFetch}
use Rattle.body_cache.specs.Fetching.{NotFetched}
use Rattle.body_cache.specs.Telling.{status_of_read, status_of_unread, text_of_read}
use Rattle.body_cache.specs.declared.refused.ReadFault.{ReadFault}
use Rattle.body_cache.proofs.Founds.{made}
use Rattle.body_cache.proofs.carrying.fetch.Goals as goal

-- no key was found
pub returns-in_err-key-clause-ends : goal.returns-in_err-key-clause-ends
returns-in_err-key-clause-ends g c = λ t.
    let k = course_of g.W.Clocked g.W.Disk.seen c.args.world.now c.find.new.disk in
    let v = shelving_of g.K.Shelf c.args.shelf.now c.args.shelf.now in
    subst (λ (r : Result (List ℕ) ReadFault). EndsFetch c.args.account.now c.args.name.now c.args.uid k v (status_of_read r) (text_of_read r))
    (sym (made c.from_residual.result _ c.from_residual.ensures.1))
    (unfound_fetch k v c.find.ensures.link (reads_outside k.old k.new (c.find.ensures.reads t)) (λ told. refl) c.args.name.now c.args.uid c.args.account.now
    c.in_err-key.field-0.0 (c.find.ensures.why t c.in_err-key.field-0.0 c.in_err-key.was))

pub returns-in_err-key-clause-looks : goal.returns-in_err-key-clause-looks
returns-in_err-key-clause-looks g c = λ t. looks_alone g.W.Clocked c.args.world.now c.find.new.disk (c.find.ensures.reads t) c.find.ensures.link

pub returns-in_err-key-clause-causes : goal.returns-in_err-key-clause-causes
returns-in_err-key-clause-causes g c =
    subst (λ (r : Result (List ℕ) ReadFault). HasCauses g.W.Clocked c.args.world.now c.find.new.disk (status_of_read r))
    (sym (made c.from_residual.result _ c.from_residual.ensures.1))
    (unfound_causes g.W.Clocked c.args.world.now c.find.new.disk c.find.result c.in_err-key.field-0.0 c.in_err-key.was c.find.ensures.only
    c.find.ensures.cause c.find.ensures.unfailed c.find.ensures.count c.find.ensures.link)

pub returns-in_err-key-clause-shelf : goal.returns-in_err-key-clause-shelf
returns-in_err-key-clause-shelf g c =
    subst (λ (r : Result (List ℕ) ReadFault). HasShelfCause g.K.Shelf c.args.shelf.now c.args.shelf.now (status_of_read r))
    (sym (made c.from_residual.result _ c.from_residual.ensures.1))
    (shelf_alone g.K.Shelf c.args.shelf.now (status_of_unread c.in_err-key.field-0.0)
    (λ is. unfound_shelf c.in_err-key.field-0.0 (c.find.ensures.only c.in_err-key.field-0.0 c.in_err-key.was) is))

-- the text was fetched
pub returns-in-Ok-clause-ends : goal.returns-in-Ok-clause-ends
returns-in-Ok-clause-ends g c = λ t.
    let k = course_of g.W.Clocked g.W.Disk.seen c.args.world.now c.find.new.disk in
    let l = course_of g.W.Clocked g.W.Disk.seen c.args.world.now c.fetch_text.new.link in
    let v = shelving_of g.K.Shelf c.args.shelf.now c.kept.new.shelf in
    let put = puts_as v c.in_ok-key.key c.as_slice.result.now c.in-Ok.text c.kept.result c.as_slice.ensures c.kept.ensures.puts in
    fetched_ends c.args.account.now c.args.name.now c.args.uid l v c.in_ok-key.key
    (finds_still c.args.name.now c.args.uid k l c.in_ok-key.key refl (c.fetch_text.ensures.asks.files t) (c.in_ok-key.ensures.finds t))
    c.in-Ok.text (c.in-Ok.ensures.fetches t) c.kept.result put

pub returns-in-Ok-clause-looks : goal.returns-in-Ok-clause-looks
returns-in-Ok-clause-looks g c = λ t.
    looks_then g.W.Clocked c.args.world.now c.find.new.disk c.fetch_text.new.link (c.find.ensures.reads t) c.find.ensures.link
    (c.fetch_text.ensures.asks.files t) c.fetch_text.ensures.asks.told (c.fetch_text.ensures.once t)

pub returns-in-Ok-clause-told : goal.returns-in-Ok-clause-told
returns-in-Ok-clause-told g c = λ t.
    let files = g.W.Clocked.server_with_files t in
    let finds = c.in_ok-key.ensures.finds files in
    let v = shelving_of g.K.Shelf c.args.shelf.now c.kept.new.shelf in
    let put = puts_as v c.in_ok-key.key c.as_slice.result.now c.in-Ok.text c.kept.result c.as_slice.ensures c.kept.ensures.puts in
    on_ok_more _ _
    (λ done. record {
      opened = g.W.Clocked.clock c.find.new.disk;
      opens = c.find.ensures.reads files;
      book = finds.book;
      leaves = finds.reads.leaves;
      key = c.in_ok-key.key;
      is = finds.is;
      text = c.in-Ok.text;
      told = c.in-Ok.ensures.told t;
      put = done;
    }) c.kept.result (put_done v c.in_ok-key.key c.in-Ok.text c.kept.result put)

pub returns-in-Ok-clause-causes : goal.returns-in-Ok-clause-causes
returns-in-Ok-clause-causes g c =
    let v = shelving_of g.K.Shelf c.args.shelf.now c.kept.new.shelf in
    let put = puts_as v c.in_ok-key.key c.as_slice.result.now c.in-Ok.text c.kept.result c.as_slice.ensures c.kept.ensures.puts in
    let blames = put_blames v c.in_ok-key.key c.in-Ok.text c.kept.result put in
    fetched_causes g.W.Clocked c.args.world.now c.find.new.disk c.fetch_text.new.link c.fetch_text.result c.fetch_text.ensures.asks c.find.ensures.link
    c.find.ensures.count (c.in_ok-key.ensures.unfailed (search rules)) c.in-Ok.text (search rules) (status_of_read c.kept.result) blames.0 blames.1

-- it wasn't
pub returns-in-Err-clause-ends : goal.returns-in-Err-clause-ends
returns-in-Err-clause-ends g c = λ t.
    let k = course_of g.W.Clocked g.W.Disk.seen c.args.world.now c.find.new.disk in
    let l = course_of g.W.Clocked g.W.Disk.seen c.args.world.now c.fetch_text.new.link in
    let finds = c.in_ok-key.ensures.finds t in
    unfetched_ends c.args.account.now c.args.name.now c.args.uid l (shelving_of g.K.Shelf c.args.shelf.now c.args.shelf.now) c.in_ok-key.key
    (finds_still c.args.name.now c.args.uid k l c.in_ok-key.key refl (c.fetch_text.ensures.asks.files t) finds) (λ told. refl)
    (keyed c.args.name.now c.args.uid c.in_ok-key.key finds.book finds.is).named c.in-Err.fault
    (subst (λ (x : LinkState). NotFetched c.args.account.now c.in_ok-key.key x (g.W.Clocked.link c.fetch_text.new.link) c.in-Err.fault)
    c.find.ensures.link (c.fetch_text.ensures.why t c.in-Err.fault (search rules)))
    (λ is. c.fetch_text.ensures.asks.no_disk (search rules)) c.not_fetched.result c.not_fetched.ensures

pub returns-in-Err-clause-looks : goal.returns-in-Err-clause-looks
returns-in-Err-clause-looks g c = λ t.
    looks_then g.W.Clocked c.args.world.now c.find.new.disk c.fetch_text.new.link (c.find.ensures.reads t) c.find.ensures.link
    (c.fetch_text.ensures.asks.files t) c.fetch_text.ensures.asks.told (c.fetch_text.ensures.once t)

pub returns-in-Err-clause-causes : goal.returns-in-Err-clause-causes
returns-in-Err-clause-causes g c =
    unfetched_causes g.W.Clocked c.args.world.now c.find.new.disk c.fetch_text.new.link c.fetch_text.result c.fetch_text.ensures.asks c.find.ensures.link
    c.find.ensures.count (c.in_ok-key.ensures.unfailed (search rules)) c.in_ok-key.key c.in-Err.fault (search rules) c.not_fetched.result
    c.not_fetched.ensures

pub returns-in-Err-clause-shelf : goal.returns-in-Err-clause-shelf
returns-in-Err-clause-shelf g c =
    shelf_alone g.K.Shelf c.args.shelf.now _ (λ is. failed_shelf c.in_ok-key.key c.in-Err.fault c.not_fetched.result c.not_fetched.ensures is)

-- at a server that serves
pub returns-in_err-key-clause-serves : goal.returns-in_err-key-clause-serves
returns-in_err-key-clause-serves g c = λ t serving box.
    subst (λ (r : Result (List ℕ) ReadFault). IsServed (status_of_read r)) (sym (made c.from_residual.result _ c.from_residual.ensures.1))
    (unfound_served c.in_err-key.field-0.0 (c.find.ensures.only c.in_err-key.field-0.0 c.in_err-key.was))

pub returns-in-Ok-clause-serves : goal.returns-in-Ok-clause-serves
returns-in-Ok-clause-serves g c = λ t serving box.
    let v = shelving_of g.K.Shelf c.args.shelf.now c.kept.new.shelf in
    let put = puts_as v c.in_ok-key.key c.as_slice.result.now c.in-Ok.text c.kept.result c.as_slice.ensures c.kept.ensures.puts in
    put_served v c.in_ok-key.key c.in-Ok.text c.kept.result put

pub returns-in-Err-clause-serves : goal.returns-in-Err-clause-serves
returns-in-Err-clause-serves g c = λ t serving box.
    let files = g.W.Clocked.server_with_files t in
    let start = g.W.Clocked.clock c.args.world.now in
    let mid = g.W.Clocked.clock c.find.new.disk in
    let end = g.W.Clocked.clock c.fetch_text.new.link in
    let opens = c.find.ensures.reads files in
    let finds = c.in_ok-key.ensures.finds files in
    unfetched_served c.in_ok-key.key c.in-Err.fault c.not_fetched.result c.not_fetched.ensures
    (c.fetch_text.ensures.serves t (serving_opened start mid end opens (grows Any (LinkStep AnyStep) mid end (c.fetch_text.ensures.asks.files files)) serving)
    (subst (λ (n : List ℕ). IsBox n mid.now.outside.server) (sym (keyed c.args.name.now c.args.uid c.in_ok-key.key finds.book finds.is).named)
    (subst (λ (p : Peer). IsBox c.args.name.now p.server) (sym (reads_outside start mid opens)) box)) c.in-Err.fault (search rules))
