mod Numbers
mod Pastes
mod Ends
mod ReadBack
mod WriteBack
mod RoundTrips
mod Holding
