mod AtFeeds
mod Turning
mod Conserves
mod Laws
mod Sides
mod Audits
mod Counted
