mod Showing
mod Listing
