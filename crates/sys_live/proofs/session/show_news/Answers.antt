use Rattle.sys_live.proofs.Making.{news_shown}
use Rattle.sys_live.proofs.session.show_news.Goals as goal

pub returns-clause-goes_on : goal.returns-clause-goes_on
returns-clause-goes_on g c = news_shown _ _ _ _ _ _ _ _ c.echo.result c.if-is_cut.false c.is_err.ensures.value c.echo.ensures.stays c.echo.ensures.echoes c.echo.ensures.same c.echo.ensures.seen c.echo.ensures.within
